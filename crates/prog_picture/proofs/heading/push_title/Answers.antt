use Rattle.std.proofs.Common.{rules}
use Rattle.prog_picture.proofs.Bare.{bare}
use Rattle.prog_picture.proofs.heading.push_title.Goals as goal

pub loop-line-init : goal.loop-line-init
loop-line-init c = search (rules, bare)

pub returns : goal.returns
returns c = search (rules, bare)
