-- What rows may make of a value, and games that make two different values of the same.
use Rattle.std.specs.Prelude.{◌≡◌, ◌≢◌, List, [], ◌∷◌}
use Rattle.roll_frame.specs.declared.row.Cell.{Cell}
use Rattle.roll_frame.specs.Cells.{Rows}
use Rattle.roll_frame.specs.Games.{Value}

-- which values an advance by a row may make of a value
abbrev pub Ran : Type 1
Ran = Value → List Cell → Value → Type 0

-- a chain of advances, one by each of the rows, may lead from x to y
abbrev pub IsReached : Ran → Value → Rows → Value → Type 0
IsReached ran x [] y = y ≡ x
IsReached ran x (row ∷ rows) y = (z : Value) × ran x row z × IsReached ran z rows y

-- the rows may lead from x to two different values
pub record Diverges (ran : Ran) (x : Value) (rows : Rows) : Type 0 where
  pub one : Value
  pub other : Value
  pub one_reached : IsReached ran x rows one
  pub other_reached : IsReached ran x rows other
  pub different : one ≢ other

abbrev pub NeverDiverges : Ran → Type 0
NeverDiverges ran = (x : Value) (rows : Rows) → ¬ Diverges ran x rows
