-- Sync tests as a clause sees them, and what their verdicts say.
use Rattle.std.specs.Prelude.{◌≡◌, ◌⊎◌, ℕ, ◌+◌, ◌<◌, ◌≤◌, List, [], ◌∷◌, ◌++◌, length, take, slice_index_or, Option, Some, None, option_map, is_none, nat_le, not, true, false, IfSome, IsSomeAnd}
use Rattle.std.specs.Int.{is_in_range}
use Rattle.std.specs.Option.{option_map_or}
use Rattle.roll_frame.specs.declared.limits.TheConstants.{FRAME_LIMIT, SYNC_TEST_LIMIT}
use Rattle.roll_frame.specs.declared.refusal.Refusal.{Refusal}
use Rattle.roll_frame.specs.declared.refusal.Refusal.TheVariants.{FrameLimit, InvalidRequest, Stopped}
use Rattle.roll_frame.specs.declared.row.Cell.{Cell}
use Rattle.roll_frame.specs.Cells.{Rows}
use Rattle.roll_frame.specs.Games.{Value}
use Rattle.roll_frame.specs.Refusals.{first_refusal}
use Rattle.roll_game.specs.Counts.{IsRefusedAt, counted, rolled, stepped}
use Rattle.roll_game.specs.Divergence.{Ran, IsReached, Diverges}
use Rattle.roll_game.specs.declared.counts.Call.TheVariants.{Advance, Save}
use Rattle.roll_game.specs.declared.counts.Counts.{Counts}
use Rattle.roll_synctest.specs.Runs.{FirstRun, IsTrace, value_before}
use Rattle.roll_synctest.specs.declared.verdict.Verdict.{Verdict}
use Rattle.roll_synctest.specs.declared.verdict.Verdict.TheVariants.{Run, Verified, Mismatch}

-- a test: how many frames it verifies at once, and how many are verified; what the second run has reached, after those; the
-- rows since then; what the first run has reached, after these, none in a test that is stopped; and what the game was asked
pub record Tested : Type 0 where
  pub frames : ℕ
  pub verified : ℕ
  pub second : Value
  pub rows : Rows
  pub first : Option Value
  pub counts : Counts

-- a test of which these are the fields
abbrev pub tested : ℕ → ℕ → Value → Option FirstRun → Counts → Tested
tested frames verified second first counts =
    record {
      frames = frames;
      verified = verified;
      second = second;
      rows = option_map_or (λ run. run.rows) first [];
      first = option_map (λ run. run.state) first;
      counts = counts;
    }

-- the first run has come from where the second one is
pub record IsAhead (ran : Ran) (frames verified : ℕ) (second : Value) (run : FirstRun) : Type 0 where
  pub short : length run.rows < frames
  pub room : frames ≤ run.room
  pub few : verified + length run.rows ≤ FRAME_LIMIT
  pub trace : IsTrace ran second run.rows run.results
  pub state : run.state ≡ value_before second run.results (length run.rows)

-- what the fields of a test keep
pub record IsTest (ran : Ran) (frames verified : ℕ) (second : Value) (first : Option FirstRun) : Type 0 where
  pub most : frames ≤ SYNC_TEST_LIMIT
  pub few : verified ≤ FRAME_LIMIT
  pub ahead : IfSome first (IsAhead ran frames verified second)

-- why no test starts
abbrev pub start_refusal : ℕ → Option Refusal
start_refusal frames = first_refusal ((not (is_in_range 1 SYNC_TEST_LIMIT frames), InvalidRequest) ∷ [])

-- the rows that were taken, each counted once
abbrev pub taken : Tested → ℕ
taken t = t.verified + length t.rows

-- why a test takes no row
abbrev pub step_refusal : Tested → Option Refusal
step_refusal t = first_refusal ((is_none t.first, Stopped) ∷ (nat_le FRAME_LIMIT (taken t), FrameLimit) ∷ [])

-- a test that is stopped
abbrev pub stopped : Tested → Counts → Tested
stopped t counts = record t { rows = []; first = None; counts = counts }

-- the rows since the last verified frame, with one more
abbrev pub rows_with : Tested → List Cell → Rows
rows_with t row = t.rows ++ row ∷ []

-- fewer rows than the frames: the row was run once, and led the first run on
pub record IsRun (ran : Ran) (old new : Tested) (row : List Cell) : Type 0 where
  pub early : length old.rows + 1 < old.frames
  pub seen : new ≡ record old { rows = rows_with old row; first = new.first; counts = stepped 1 old.counts }
  pub reached : IsSomeAnd new.first (IsReached ran old.second (rows_with old row))

-- as many rows as the frames: they were run again, and led both runs to the same value
pub record IsVerified (ran : Ran) (old new : Tested) (row : List Cell) (count : ℕ) : Type 0 where
  pub due : length old.rows + 1 ≡ old.frames
  pub count_is : count ≡ old.verified + old.frames
  pub seen : new ≡ record old { verified = count; second = new.second; rows = []; first = Some new.second; counts = rolled old.frames (stepped 1 old.counts) }
  pub reached : IsReached ran old.second (rows_with old row) new.second

-- as many rows as the frames: they were run again, up to the row of this frame. Before it both runs had reached the same
-- value, and it led them to different ones
pub record IsMismatch (ran : Ran) (old new : Tested) (row : List Cell) (frame : ℕ) : Type 0 where
  pub due : length old.rows + 1 ≡ old.frames
  pub place : ℕ
  pub within : place < old.frames
  pub frame_is : frame ≡ old.verified + place
  pub seen : new ≡ stopped old (rolled (place + 1) (stepped 1 old.counts))
  pub before : Value
  pub agreed : IsReached ran old.second (take place (rows_with old row)) before
  pub differs : Diverges ran before (slice_index_or (rows_with old row) place [] ∷ [])
  pub diverges : Diverges ran old.second (take (place + 1) (rows_with old row))

-- what a verdict says of a row, and of the test before and after it
abbrev pub Says : Ran → Tested → Tested → List Cell → Verdict → Type 0
Says ran old new row Run = IsRun ran old new row
Says ran old new row (Verified count) = IsVerified ran old new row count
Says ran old new row (Mismatch frame) = IsMismatch ran old new row frame

-- what a step asked of a game that refused: the first run's advance, or its save, or a call of the second run
abbrev pub IsRefused : Tested → Counts → Type 0
IsRefused old new =
    (new ≡ counted Advance false old.counts)
    ⊎ ((new ≡ counted Save false (counted Advance true old.counts)) ⊎ ((length old.rows + 1 ≡ old.frames) × ((made : ℕ) × (made < old.frames) × IsRefusedAt made (stepped 1 old.counts) new)))

-- a step that the game refused
pub record IsCut (old new : Tested) : Type 0 where
  pub seen : new ≡ stopped old new.counts
  pub refused : IsRefused old new.counts
