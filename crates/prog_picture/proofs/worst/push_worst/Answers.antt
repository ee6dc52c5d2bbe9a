use Rattle.std.proofs.Common.{rules}
use Rattle.prog_picture.proofs.Bare.{bare}
use Rattle.prog_picture.proofs.worst.push_worst.Goals as goal

pub returns : goal.returns
returns c = search (rules, bare)

pub returns-in_default : goal.returns-in_default
returns-in_default c = search (rules, bare)
