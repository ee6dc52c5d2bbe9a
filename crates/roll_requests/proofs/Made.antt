-- A call that rolls is made.
use Rattle.std.proofs.Common.{◌≡◌, ◌∙◌, [], ◌∷◌, refl}
use Rattle.roll_frame.specs.Events.{answer}
use Rattle.roll_frame.specs.declared.reply.Reply.{Reply}
use Rattle.roll_requests.specs.Asked.{Asked}
use Rattle.roll_requests.specs.Made.{AsksFor, IsMade}
use Rattle.roll_session.specs.Answered.{with_entries}
use Rattle.roll_session.specs.Calls.{entry_of, IsAllowed}
use Rattle.roll_session.specs.Gameless.{still}
use Rattle.roll_session.specs.declared.event.Call.{Call}

pub made_of : (old new : Asked) (call : Call) (said : Reply) → IsAllowed still old.seen call → new.seen ≡ with_entries old.seen (entry_of call ∷ []) old.seen.counts → AsksFor old new call → said ≡ answer old.seen.core (entry_of call) → IsMade old new call said
made_of old new call said allowed entered asks is = record {
  said_is = is ∙ rw (allowed.new, allowed.accepted) refl;
  seen = entered ∙ rw (allowed.new, allowed.accepted) refl;
  asks = asks;
}
