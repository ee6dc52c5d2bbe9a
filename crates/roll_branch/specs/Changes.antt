-- Rows by what each has otherwise than the row before it.
use Rattle.std.specs.Prelude.{◌≡◌, ℕ, zero, suc, ◌+◌, ◌<◌, ◌≤◌, List, [], ◌∷◌, ◌++◌, length, take, drop, filter, fold, All, Bool, ◌==◌}
use Rattle.roll_frame.specs.Cells.{Rows}
use Rattle.roll_frame.specs.declared.limits.TheConstants.{PLAYER_LIMIT}
use Rattle.roll_frame.specs.declared.row.Cell.{Cell}
use Rattle.roll_frame.specs.declared.row.Cell.TheVariants.{Word, Gone}
use Rattle.roll_branch.specs.declared.change.Change.{Change}
use Rattle.roll_branch.specs.declared.change.Change.TheVariants.{Word as WordAt, Gone as GoneAt, End as EndAt}

-- the row that has a change, and the place of the player whom it is about
abbrev pub row_of : Change → ℕ
row_of (WordAt row place word) = row
row_of (GoneAt row place) = row
row_of (EndAt row place) = row

abbrev pub place_of : Change → ℕ
place_of (WordAt row place word) = place
place_of (GoneAt row place) = place
place_of (EndAt row place) = place

abbrev pub IsPlaced : Change → Type 0
IsPlaced change = place_of change < PLAYER_LIMIT

-- the cells with this one at a place, or at their end if they end before it
abbrev pub with_cell : List Cell → ℕ → Cell → List Cell
with_cell cells place cell = take place cells ++ cell ∷ drop (place + 1) cells

-- the cells after one change
abbrev pub with_change : List Cell → Change → List Cell
with_change cells (WordAt row place word) = with_cell cells place (Word word)
with_change cells (GoneAt row place) = with_cell cells place Gone
with_change cells (EndAt row place) = take place cells

abbrev pub is_of : ℕ → Change → Bool
is_of row change = row_of change == row

-- the cells after the changes of a row, in their order
abbrev pub changed_by : List Change → ℕ → List Cell → List Cell
changed_by changes row cells = fold with_change cells (filter (is_of row) changes)

-- the cells before each row: none before the first, and then those that its changes make of them
abbrev pub cells_before : List Change → ℕ → List Cell
cells_before changes zero = []
cells_before changes (suc row) = changed_by changes row (cells_before changes row)

-- so many rows, from one on
abbrev pub rows_from : List Change → ℕ → ℕ → Rows
rows_from changes from zero = []
rows_from changes from (suc count) = rows_from changes from count ++ cells_before changes (suc (from + count)) ∷ []

-- each of the first rows has a cell
abbrev pub AreFilled : List Change → ℕ → Type 0
AreFilled changes count = (row : ℕ) → row < count → 1 ≤ length (cells_before changes (suc row))

-- the changes of one row were added to others, and nothing else
pub record AreAdded (row : ℕ) (before cells : List Cell) (old new : List Change) : Type 0 where
  pub others : (other : ℕ) → (other ≡ row → ⊥) → filter (is_of other) new ≡ filter (is_of other) old
  pub made : filter (is_of row) old ≡ [] → changed_by new row before ≡ cells
  pub placed : All IsPlaced old → All IsPlaced new
