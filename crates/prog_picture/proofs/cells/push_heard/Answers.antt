use Rattle.std.proofs.Common.{rules}
use Rattle.prog_picture.proofs.Bare.{bare}
use Rattle.prog_picture.proofs.cells.push_heard.Goals as goal

pub returns-in-None : goal.returns-in-None
returns-in-None c = search (rules, bare)

pub returns-in-Some : goal.returns-in-Some
returns-in-Some c = search (rules, bare)

pub returns-in-Some-2 : goal.returns-in-Some-2
returns-in-Some-2 c = search (rules, bare)
