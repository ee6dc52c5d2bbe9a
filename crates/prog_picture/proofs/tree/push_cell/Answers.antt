use Rattle.std.proofs.Common.{rules}
use Rattle.prog_picture.proofs.Bare.{bare}
use Rattle.prog_picture.proofs.tree.push_cell.Goals as goal

pub returns-in-Word : goal.returns-in-Word
returns-in-Word c = search (rules, bare)

pub returns-in-Gone : goal.returns-in-Gone
returns-in-Gone c = search (rules, bare)
