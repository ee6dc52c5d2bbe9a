-- A spectator as a clause sees it.
use Rattle.std.specs.Prelude.{◌≡◌, List, [], ◌∷◌, ◌++◌, Bool, true, false, not, Option, Some, None, if◌then◌else◌}
use Rattle.roll_frame.specs.declared.refusal.Refusal.{Refusal}
use Rattle.roll_frame.specs.declared.refusal.Refusal.TheVariants.{NoMemory, PredictionThreshold, Stopped}
use Rattle.roll_frame.specs.declared.row.Cell.{Cell}
use Rattle.roll_frame.specs.Cells.{Rows}
use Rattle.roll_frame.specs.Games.{Value}
use Rattle.roll_frame.specs.Paths.{run}
use Rattle.roll_game.specs.Counts.{counted}
use Rattle.roll_game.specs.declared.counts.Call.TheVariants.{Advance}
use Rattle.roll_game.specs.declared.counts.Counts.{Counts}

-- what the opening is worth, the rows received, whether it is stopped, and what the game was asked
pub record Watched : Type 0 where
  pub opening : Value
  pub rows : Rows
  pub stopped : Bool
  pub counts : Counts

-- the value shown: the run of the rows from the opening
abbrev pub shown : (Value → List Cell → Value) → Watched → Option Value
shown step w = if w.stopped then None else Some (run step w.opening w.rows)

-- one row more was received, and the game was asked to advance by it, which it granted or refused
pub record IsStepped (old new : Watched) (granted : Bool) : Type 0 where
  pub running : old.stopped ≡ false
  pub row : List Cell
  pub seen : new ≡ record old { rows = old.rows ++ row ∷ []; stopped = not granted; counts = counted Advance granted old.counts }

-- what a refused step leaves
abbrev pub IsRefused : Watched → Watched → Refusal → Type 0
IsRefused old new Stopped = (old.stopped ≡ true) × (new ≡ old)
IsRefused old new PredictionThreshold = (old.stopped ≡ false) × (new ≡ old)
IsRefused old new NoMemory = IsStepped old new false
IsRefused old new why = ⊥
