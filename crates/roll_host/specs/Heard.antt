-- What items make of a session: each is a remote word.
use Rattle.std.specs.Prelude.{◌≡◌, ℕ, List, [], ◌∷◌, map, Bool, true, false, count_by, is_some, Option, None, Some}
use Rattle.std.specs.Int.{from_bool}
use Rattle.std.specs.Option.{option_or}
use Rattle.roll_frame.specs.Events.{CoreEvent}
use Rattle.roll_frame.specs.declared.entry.Entry.TheVariants.{Remote as Hears}
use Rattle.roll_frame.specs.declared.refusal.Refusal.{Refusal}
use Rattle.roll_frame.specs.declared.refusal.Refusal.TheVariants.{QueueFull, LogFull, NoMemory}
use Rattle.roll_frame.specs.declared.reply.Reply.{Reply}
use Rattle.roll_frame.specs.declared.reply.Reply.TheVariants.{Refused}
use Rattle.roll_link.specs.declared.remote.Remote.{Remote}
use Rattle.roll_session.specs.Answered.{replies_to, IsAnswered, IsPlayed}
use Rattle.roll_session.specs.Seen.{Seen, Step, plain}

abbrev pub event_of : Remote → CoreEvent
event_of item = plain (Hears item.player item.frame item.word)

abbrev pub events_of : List Remote → List CoreEvent
events_of items = map event_of items

-- an item that is refused for this is held, and tried again
abbrev pub can_wait : Refusal → Bool
can_wait QueueFull = true
can_wait LogFull = true
can_wait NoMemory = true
can_wait why = false

abbrev pub is_refused : Reply → Bool
is_refused (Refused why) = true
is_refused said = false

-- an item with this reply would have been held
abbrev pub is_to_wait : Reply → Bool
is_to_wait (Refused why) = can_wait why
is_to_wait said = false

-- why a reply refuses, if it does
abbrev pub refusal_in : Reply → Option Refusal
refusal_in (Refused why) = Some why
refusal_in said = None

-- the last refusal among replies
abbrev pub last_refusal : List Reply → Option Refusal
last_refusal [] = None
last_refusal (said ∷ more) = option_or (last_refusal more) (refusal_in said)

-- items were applied, each as `remote_input` would: so many were refused, the last of them for this,
-- if any was, and none was to be held
pub record AreHeard (step : Step) (old new : Seen) (items : List Remote)
    (refused : ℕ) (why : Option Refusal) : Type 0 where
  pub played : IsPlayed step old new (events_of items)
  pub refusals : refused ≡ count_by is_refused (replies_to step old (events_of items))
  pub why_is : why ≡ last_refusal (replies_to step old (events_of items))
  pub none_waits : count_by is_to_wait (replies_to step old (events_of items)) ≡ 0

-- one item was applied, and refused for this, if it was
abbrev pub IsHeard : Step → Seen → Seen → Remote → Option Refusal → Type 0
IsHeard step old new item why = AreHeard step old new (item ∷ []) (from_bool (is_some why)) why

-- an item is held for what `remote_input` answers it
pub record IsHeldFor (step : Step) (s : Seen) (item : Remote) (why : Refusal) : Type 0 where
  pub waits : can_wait why ≡ true
  pub answered : IsAnswered step s s (event_of item) (Refused why)
