use Rattle.std.proofs.Common.{rules}
use Rattle.prog_picture.proofs.Bare.{bare}
use Rattle.prog_picture.proofs.cells.push_told.Goals as goal

pub returns-then-run-gt1 : goal.returns-then-run-gt1
returns-then-run-gt1 c = search (rules, bare)

pub returns : goal.returns
returns c = search (rules, bare)
