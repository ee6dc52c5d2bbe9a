-- Games: what a state is worth, and what a row makes of it.
use Rattle.std.specs.Prelude.{ℕ, List}
use Rattle.roll_frame.specs.declared.row.Cell.{Cell}

-- the value of a state: whole numbers
abbrev pub Value : Type 0
Value = List ℕ

-- the value that a session opens with, and what a frame's row makes of a value
pub record Game : Type 0 where
  pub opening : Value
  pub step : Value → List Cell → Value
