-- Two runs of the same rows.
use Rattle.std.specs.Prelude.{◌≡◌, ◌≢◌, ℕ, ◌+◌, ◌<◌, List, [], ◌∷◌, length, slice_index_or}
use Rattle.roll_frame.specs.Cells.{Rows}
use Rattle.roll_frame.specs.Games.{Value}
use Rattle.roll_game.specs.Divergence.{Ran}
use Rattle.roll_synctest.specs.declared.second.Rerun.{Rerun}
use Rattle.roll_synctest.specs.declared.second.Rerun.TheVariants.{Agrees, Differs}

-- the first run since the last verified frame: what its state is worth, the rows, what the result of each is worth, and how
-- many results there is room for
pub record FirstRun : Type 0 where
  pub state : Value
  pub rows : Rows
  pub results : List Value
  pub room : ℕ

-- the value before a row of a run from x that led to these values
abbrev pub value_before : Value → List Value → ℕ → Value
value_before x values place = slice_index_or (x ∷ values) place []

-- each row led from the value before it to the one at its place
pub record IsTrace (ran : Ran) (x : Value) (rows : Rows) (values : List Value) : Type 0 where
  pub many : length values ≡ length rows
  pub steps : (place : ℕ) → place < length rows → ran (value_before x values place) (slice_index_or rows place []) (slice_index_or values place [])

-- the row at a place led from the value before it to another value, too
pub record IsOther (ran : Ran) (x : Value) (rows : Rows) (values : List Value) (place : ℕ) : Type 0 where
  pub within : place < length rows
  pub other : Value
  pub ran_is : ran (value_before x values place) (slice_index_or rows place []) other
  pub different : slice_index_or values place [] ≢ other

module _ {N : Type 0} where
  -- what a second run of the rows tells of the first one
  abbrev pub IsRerun : Ran → Value → Rows → List Value → (N → Value) → Rerun N → Type 0
  IsRerun ran x rows values value (Agrees last) = value last ≡ value_before x values (length rows)
  IsRerun ran x rows values value (Differs place) = IsOther ran x rows values place

  -- how many of so many rows it ran
  abbrev pub rerun_frames : ℕ → Rerun N → ℕ
  rerun_frames count (Agrees last) = count
  rerun_frames count (Differs place) = place + 1
