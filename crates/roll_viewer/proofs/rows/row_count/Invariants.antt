use Rattle.std.proofs.Common.{◌≡◌, drop, max}
use Rattle.roll_viewer.specs.Rows.{row_count}
use Rattle.roll_viewer.proofs.rows.row_count.Given as goal

abbrev pub invariant-loop-offer : goal.invariant-loop-offer
invariant-loop-offer l = max l.most (row_count (drop l.offer-index l.offers)) ≡ row_count l.offers
