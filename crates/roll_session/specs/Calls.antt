-- The events that calls stand for.
use Rattle.std.specs.Prelude.{◌≡◌, ◌+◌, ℕ, Bool, true, false, max, Option, Some, None, Result, Ok, Err}
use Rattle.roll_branch.specs.Routed.{Routed}
use Rattle.roll_frame.specs.Core.{Core}
use Rattle.roll_frame.specs.Events.{CoreEvent, is_repeat}
use Rattle.roll_frame.specs.declared.entry.Entry.{Entry}
use Rattle.roll_frame.specs.declared.entry.Entry.TheVariants.{Local, Remote, Disconnect, Sync, Advance, Graft, Partial}
use Rattle.roll_frame.specs.declared.refusal.Refusal.{Refusal}
use Rattle.roll_frame.specs.declared.reply.Reply.{Reply}
use Rattle.roll_frame.specs.declared.reply.Reply.TheVariants.{Done, Taken, Repeated, Disconnected}
use Rattle.roll_inputs.specs.declared.heard.Heard.{Heard}
use Rattle.roll_inputs.specs.declared.heard.Heard.TheVariants.{Taken as HeardNow, Repeated as HeardBefore}
use Rattle.roll_session.specs.Seen.{Step, Seen, plain, refusal_of}
use Rattle.roll_session.specs.declared.event.Call.{Call}
use Rattle.roll_session.specs.declared.event.Call.TheVariants.{Local as LocalCall, Remote as RemoteCall, Disconnect as DisconnectCall, Sync as SyncCall, Advance as AdvanceCall}
use Rattle.roll_session.specs.declared.event.Request.{Request}
use Rattle.roll_session.specs.declared.event.Request.TheVariants.{Call as Makes, Graft as Grafts}

abbrev pub entry_of : Call → Entry
entry_of (LocalCall player word) = Local player word
entry_of (RemoteCall player frame word) = Remote player frame word
entry_of (DisconnectCall player) = Disconnect player
entry_of SyncCall = Sync
entry_of AdvanceCall = Advance

-- whether a call makes such an entry
abbrev pub is_call : Entry → Bool
is_call (Graft ticket route) = false
is_call (Partial to made) = false
is_call entry = true

abbrev pub event_of : Call → CoreEvent
event_of call = plain (entry_of call)

-- a graft, with what its branch's first state is worth
abbrev pub grafting : Routed → CoreEvent
grafting branch = record { entry = Graft branch.ticket branch.route; value = branch.from }

module _ {G S N : Type 0} where
  -- the event that a request asks for
  abbrev pub asked : Request G S N → CoreEvent
  asked (Makes call) = event_of call
  asked (Grafts branch) = grafting branch

-- the calls that give a player's input
abbrev pub IsInput : Call → Type 0
IsInput (LocalCall player word) = Unit {0}
IsInput (RemoteCall player frame word) = Unit {0}
IsInput (DisconnectCall player) = Unit {0}
IsInput SyncCall = ⊥
IsInput AdvanceCall = ⊥

-- the calls that roll
abbrev pub IsRoll : Call → Type 0
IsRoll SyncCall = Unit {0}
IsRoll AdvanceCall = Unit {0}
IsRoll call = ⊥

-- the frame that a call rolls to
abbrev pub IsRollTo : Core → Call → ℕ → Type 0
IsRollTo core SyncCall to = to ≡ core.frame
IsRollTo core AdvanceCall to = to ≡ core.frame + 1
IsRollTo core call to = ⊥

-- a remote word was taken, or taken before
abbrev pub heard_reply : Heard → Reply
heard_reply HeardNow = Taken
heard_reply HeardBefore = Repeated

-- the reply to a player's input that was taken, or taken before
abbrev pub input_reply : Call → Heard → Reply
input_reply (RemoteCall player frame word) heard = heard_reply heard
input_reply (DisconnectCall player) heard = Disconnected player
input_reply call heard = Done

-- the rules accept a call
pub record IsAllowed (step : Step) (s : Seen) (call : Call) : Type 0 where
  pub new : is_repeat s.core (entry_of call) ≡ false
  pub accepted : refusal_of step s (entry_of call) ≡ None

-- a call is let in, with room for its entry, or it repeats a word
abbrev pub IsAdmitted : Step → Seen → Seen → Call → Heard → Type 0
IsAdmitted step old new call HeardNow = IsAllowed step old call × (new ≡ record old { reserved = max old.reserved 1 })
IsAdmitted step old new call HeardBefore = (is_repeat old.core (entry_of call) ≡ true) × (new ≡ old)

-- what is judged of an event that repeats a word, or not, and that a test is against, or none
abbrev pub judged : Bool → Option Refusal → Result Heard Refusal
judged true test = Ok HeardBefore
judged false None = Ok HeardNow
judged false (Some why) = Err why
