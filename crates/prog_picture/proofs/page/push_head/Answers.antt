use Rattle.std.proofs.Common.{rules}
use Rattle.prog_picture.proofs.Bare.{bare}
use Rattle.prog_picture.proofs.page.push_head.Goals as goal

pub loop-colour-init : goal.loop-colour-init
loop-colour-init c = search (rules, bare)

pub returns : goal.returns
returns c = search (rules, bare)
