use Rattle.std.proofs.Common.{◌≡◌, ◌++◌, drop, length}
use Rattle.roll_viewer.specs.Rows.{row_in}
use Rattle.roll_viewer.proofs.rows.row_in.Given as goal

abbrev pub invariant-loop-offer : goal.invariant-loop-offer
invariant-loop-offer l = record {
  many : length l.cells.items ≡ l.offer-index;
  so_far : l.cells.items ++ row_in (drop l.offer-index l.offers) l.rest l.index ≡ row_in l.offers l.words l.index;
}
