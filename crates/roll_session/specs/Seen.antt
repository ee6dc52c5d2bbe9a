-- A session as its callers see it: how it was opened, what its events have made of it, its log, its game's counts, and for
-- how many events there is room.
use Rattle.std.specs.Prelude.{◌≡◌, ◌≤◌, ℕ, List, [], length, Option}
use Rattle.roll_frame.specs.declared.refusal.Refusal.{Refusal}
use Rattle.roll_frame.specs.declared.row.Cell.{Cell}
use Rattle.roll_frame.specs.declared.entry.Entry.{Entry}
use Rattle.roll_frame.specs.declared.settings.Settings.{Settings}
use Rattle.roll_frame.specs.Cells.{Rows}
use Rattle.roll_frame.specs.Games.{Value, Game}
use Rattle.roll_frame.specs.Core.{Core, IsPlan, cost}
use Rattle.roll_frame.specs.Events.{CoreEvent, refusal, replay}
use Rattle.roll_game.specs.declared.counts.Counts.{Counts}
use Rattle.roll_laws.specs.Sessions.{IsLog}

pub record Seen : Type 0 where
  pub settings : Settings
  pub opening : Value
  -- what the accepted events have made of it
  pub core : Core
  -- the accepted events
  pub log : List Entry
  -- what its game was asked for
  pub counts : Counts
  -- for how many events more there is room for certain
  pub reserved : ℕ

-- what the game's step makes of a value and a row
abbrev pub Step : Type 0
Step = Value → List Cell → Value

abbrev pub game_of : Step → Seen → Game
game_of step s = record { opening = s.opening; step = step }

-- an event without a branch
abbrev pub plain : Entry → CoreEvent
plain entry = record { entry = entry; value = [] }

-- why the event is refused, if it is
abbrev pub refusal_of : Step → Seen → Entry → Option Refusal
refusal_of step s entry = refusal s.settings (game_of step s) s.core (plain entry)

-- its log is one that events left, and its core what the log leads to: so each law of sessions holds of it
pub record FollowsLog (step : Step) (s : Seen) : Type 0 where
  pub log : IsLog s.settings (game_of step s) s.log
  pub core : s.core ≡ replay s.settings s.log

-- no plan to m, from whichever state was ever saved, runs fewer rows than the roll does
abbrev pub IsLeast : Core → ℕ → Type 0
IsLeast core m = (path rows : Rows) → IsPlan core m path rows → cost core m ≤ length rows
