-- Jobs and branches as a clause sees them, and the states of a branch.
use Rattle.std.specs.Prelude.{◌≡◌, ℕ, ◌+◌, ◌<◌, List, length, take, slice_index_or}
use Rattle.roll_frame.specs.declared.row.Cell.{Cell}
use Rattle.roll_frame.specs.declared.route.Route.{Route}
use Rattle.roll_frame.specs.Cells.{Rows}
use Rattle.roll_frame.specs.Games.{Value}
use Rattle.roll_frame.specs.Paths.{run}

-- a number, where it runs, and what the state is worth that it starts from
pub record Routed : Type 0 where
  pub ticket : ℕ
  pub route : Route
  pub from : Value

module _ {S : Type 0} where
  -- each state is worth the run of the rows up to it from the first value
  abbrev pub AreWorth : (S → Value) → (Value → List Cell → Value) → Value → Rows → List S → Type 0
  AreWorth value step from rows states = (k : ℕ) (d : S) → k < length states → value (slice_index_or states k d) ≡ run step from (take (k + 1) rows)

  -- one state for each row
  pub record AreStates (value : S → Value) (step : Value → List Cell → Value) (from : Value) (rows : Rows) (states : List S) : Type 0 where
    pub many : length states ≡ length rows
    pub worth : AreWorth value step from rows states
