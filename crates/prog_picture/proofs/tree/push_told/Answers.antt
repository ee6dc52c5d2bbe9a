use Rattle.std.proofs.Common.{rules}
use Rattle.prog_picture.proofs.Bare.{bare}
use Rattle.prog_picture.proofs.tree.push_told.Goals as goal

pub returns-in-Some : goal.returns-in-Some
returns-in-Some c = search (rules, bare)

pub returns-in-None : goal.returns-in-None
returns-in-None c = search (rules, bare)

pub returns-in-None-2 : goal.returns-in-None-2
returns-in-None-2 c = search (rules, bare)

pub returns-in-None-3 : goal.returns-in-None-3
returns-in-None-3 c = search (rules, bare)
