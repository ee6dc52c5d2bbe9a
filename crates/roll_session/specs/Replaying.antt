-- A log's entries, made anew as calls.
use Rattle.std.specs.Prelude.{◌≡◌, ℕ, List, take, map, true, false, Some, slice_get}
use Rattle.std.specs.List.{list_all}
use Rattle.roll_frame.specs.Events.{is_repeat, log_from}
use Rattle.roll_frame.specs.Games.{Game}
use Rattle.roll_frame.specs.declared.entry.Entry.{Entry}
use Rattle.roll_frame.specs.declared.settings.Settings.{Settings}
use Rattle.roll_laws.specs.Sessions.{IsLog}
use Rattle.roll_session.specs.Answered.{IsPlayed, IsShort}
use Rattle.roll_session.specs.Calls.{is_call}
use Rattle.roll_session.specs.Seen.{Step, Seen, game_of, plain, refusal_of}
use Rattle.roll_session.specs.declared.event.ReplayFault.{ReplayFault}
use Rattle.roll_session.specs.declared.event.ReplayFault.TheVariants.{NotACall, Repeated, Refused, NoMemory}

-- these entries are calls that came as events, and the log grew by each of them
pub record IsReplayed (step : Step) (old new : Seen) (entries : List Entry) : Type 0 where
  pub played : IsPlayed step old new (map plain entries)
  pub all : log_from old.settings (game_of step old) old.core (map plain entries) ≡ entries
  pub calls : list_all is_call entries ≡ true

-- why the entry at a place was not made anew, and what became of the session
abbrev pub Stops : Step → Seen → Seen → Entry → ℕ → ReplayFault → Type 0
Stops step old new entry place (NotACall at) = (at ≡ place) × (new ≡ old) × (is_call entry ≡ false)
Stops step old new entry place (Repeated at) = (at ≡ place) × (new ≡ old) × (is_call entry ≡ true) × (is_repeat old.core entry ≡ true)
Stops step old new entry place (Refused at why) = (at ≡ place) × (new ≡ old) × (is_call entry ≡ true) × (is_repeat old.core entry ≡ false) × (refusal_of step old entry ≡ Some why)
Stops step old new entry place (NoMemory at) = (at ≡ place) × (is_call entry ≡ true) × IsShort step old new (plain entry)

-- the entries before one were made anew, and that one was not
pub record IsStopped (step : Step) (old new : Seen) (log : List Entry) (fault : ReplayFault) : Type 0 where
  pub before : Seen
  pub place : ℕ
  pub entry : Entry
  pub there : slice_get log place ≡ Some entry
  pub done : IsReplayed step old before (take place log)
  pub stops : Stops step before new entry place fault

-- a log that some session with these settings left, of calls alone
pub record AreLogged (settings : Settings) (log : List Entry) : Type 0 where
  pub calls : list_all is_call log ≡ true
  pub game : Game
  pub left : IsLog settings game log

abbrev pub IsWantOfMemory : ReplayFault → Type 0
IsWantOfMemory (NoMemory at) = Unit {0}
IsWantOfMemory fault = ⊥
