use Rattle.std.proofs.Common.{◌≡◌}
use Rattle.roll_branch.specs.Changes.{cells_before, rows_from}
use Rattle.roll_branch.proofs.packed.first_rows.Given as goal

abbrev pub invariant-loop-row : goal.invariant-loop-row
invariant-loop-row l = record {
  rows : l.rows.items ≡ rows_from l.changes 0 l.row;
  cells : l.cells.items ≡ cells_before l.changes l.row;
}
