use Rattle.std.proofs.Common.{◌≡◌, ◌+◌, take}
use Rattle.roll_frame.proofs.row.Row.from_cells.Given as goal

abbrev pub invariant-loop-cell : goal.invariant-loop-cell
invariant-loop-cell l = l.row ≡ take (1 + l.cell-index) l.cells
