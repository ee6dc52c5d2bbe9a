-- Changes that are being gathered.
use Rattle.std.specs.Prelude.{◌≡◌, ℕ, ◌*◌, ◌≤◌, [], length, filter, All}
use Rattle.roll_frame.specs.Cells.{Rows}
use Rattle.roll_frame.specs.declared.limits.TheConstants.{PLAYER_LIMIT}
use Rattle.roll_branch.specs.Changes.{cells_before, is_of, rows_from, AreFilled, IsPlaced}
use Rattle.roll_branch.specs.declared.packing.TheConstants.{ROUTE_LIMIT}
use Rattle.roll_branch.specs.declared.packing.Packing.TheInside.{Inside}

-- the rows so far
abbrev pub gathered : Inside → Rows
gathered packing = rows_from packing.changes.items 0 packing.count

-- no change is of a later row, the last row is at hand, and there is room for the changes of as many rows as a route has
pub record IsPacking (packing : Inside) : Type 0 where
  pub short : packing.count ≤ ROUTE_LIMIT
  pub few : length packing.changes.items ≤ PLAYER_LIMIT * packing.count
  pub last : packing.last.items ≡ cells_before packing.changes.items packing.count
  pub later : (row : ℕ) → packing.count ≤ row → filter (is_of row) packing.changes.items ≡ []
  pub filled : AreFilled packing.changes.items packing.count
  pub placed : All IsPlaced packing.changes.items
