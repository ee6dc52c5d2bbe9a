-- What events make of a session, and what is answered.
use Rattle.std.specs.Prelude.{◌≡◌, ◌⊎◌, ◌+◌, ◌-◌, true, List, [], ◌∷◌, ◌++◌, fold, length, Result, Ok, Err, if◌then◌else◌}
use Rattle.roll_frame.specs.Core.{Core, cost}
use Rattle.roll_frame.specs.Events.{CoreEvent, after, applied, is_accepted, log_from, played_from, replies_from, reply}
use Rattle.roll_frame.specs.Games.{Game}
use Rattle.roll_frame.specs.declared.entry.Entry.{Entry}
use Rattle.roll_frame.specs.declared.entry.Entry.TheVariants.{Sync, Advance}
use Rattle.roll_frame.specs.declared.refusal.Refusal.{Refusal}
use Rattle.roll_frame.specs.declared.refusal.Refusal.TheVariants.{NoMemory}
use Rattle.roll_frame.specs.declared.reply.Reply.{Reply}
use Rattle.roll_frame.specs.declared.reply.Reply.TheVariants.{Refused}
use Rattle.roll_frame.specs.declared.settings.Settings.{Settings}
use Rattle.roll_game.specs.Counts.{rolled}
use Rattle.roll_game.specs.declared.counts.Counts.{Counts}
use Rattle.roll_session.specs.Changes.{IsPartial}
use Rattle.roll_session.specs.Seen.{Step, Seen, game_of}

-- what an accepted entry asks of the game: nothing, unless it rolls
abbrev pub counts_by : Core → Entry → Counts → Counts
counts_by core Sync counts = rolled (cost core core.frame) counts
counts_by core Advance counts = rolled (cost core (core.frame + 1)) counts
counts_by core entry counts = counts

-- what any events ask of the game: a refused one nothing
abbrev pub counts_from : Settings → Game → Core → List CoreEvent → Counts → Counts
counts_from settings game core [] counts = counts
counts_from settings game core (event ∷ events) counts =
    counts_from settings game (after settings game core event) events (if is_accepted settings game core event then counts_by core event.entry counts else counts)

-- the session after more entries, of which each is one event less that there is room for
abbrev pub with_entries : Seen → List Entry → Counts → Seen
with_entries s entries counts =
    record s {
      core = fold applied s.core entries;
      log = s.log ++ entries;
      counts = counts;
      reserved = s.reserved - length entries;
    }

-- the replies to any events
abbrev pub replies_to : Step → Seen → List CoreEvent → List Reply
replies_to step s events = replies_from s.settings (game_of step s) s.core events

-- the session after any events, each of them accepted or refused by the rules
pub record IsPlayed (step : Step) (old new : Seen) (events : List CoreEvent) : Type 0 where
  pub seen : new ≡ with_entries old (log_from old.settings (game_of step old) old.core events) (counts_from old.settings (game_of step old) old.core events old.counts)
  pub core : new.core ≡ played_from old.settings (game_of step old) old.core events

-- what the rules make of an event, and their reply
pub record IsReplied (step : Step) (old new : Seen) (event : CoreEvent) (said : Reply) : Type 0 where
  pub said_is : said ≡ reply old.settings (game_of step old) old.core event
  pub played : IsPlayed step old new (event ∷ [])

-- the game refused in the roll of an entry
abbrev pub IsCutShort : Seen → Seen → Entry → Type 0
IsCutShort old new Sync = IsPartial old new old.core.frame
IsCutShort old new Advance = IsPartial old new (old.core.frame + 1)
IsCutShort old new entry = ⊥

-- memory ran out for an event that the rules accept: the session is as it was, which can't be where an event was reserved,
-- or the game refused in the roll
pub record IsShort (step : Step) (old new : Seen) (event : CoreEvent) : Type 0 where
  pub accepted : is_accepted old.settings (game_of step old) old.core event ≡ true
  pub left : ((new ≡ old) × (old.reserved ≡ 0)) ⊎ IsCutShort old new event.entry

-- an event is answered as the rules have it, or for want of memory
abbrev pub IsAnswered : Step → Seen → Seen → CoreEvent → Reply → Type 0
IsAnswered step old new event said =
    IsReplied step old new event said ⊎ ((said ≡ Refused NoMemory) × IsShort step old new event)

-- the reply that a call's result stands for: f says it of what an accepted event gives
abbrev pub replied : {X : Type 0} → (X → Reply) → Result X Refusal → Reply
replied f (Ok x) = f x
replied f (Err why) = Refused why
