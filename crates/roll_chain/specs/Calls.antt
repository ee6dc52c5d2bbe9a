-- Calls of a session whose game is played elsewhere, and of one that has its game.
use Rattle.std.specs.Prelude.{◌≡◌, Bool, true, false}
use Rattle.roll_frame.specs.declared.refusal.Refusal.{Refusal}
use Rattle.roll_frame.specs.declared.reply.Reply.{Reply}
use Rattle.roll_frame.specs.declared.reply.Reply.TheVariants.{Refused}
use Rattle.roll_requests.specs.Asked.{Asked}
use Rattle.roll_requests.specs.Made.{IsMade, IsNotMade, KeepsLeading}
use Rattle.roll_requests.specs.declared.declined.Declined.{Declined}
use Rattle.roll_session.specs.Answered.{IsAnswered, IsReplied}
use Rattle.roll_session.specs.Calls.{event_of}
use Rattle.roll_session.specs.Seen.{Seen, Step}
use Rattle.roll_session.specs.declared.event.Call.{Call}

-- a call of a session whose game is played elsewhere is made
pub record MakesCall (old new : Asked) (call : Call) : Type 0 where
  pub said : Reply
  pub made : IsMade old new call said
  pub leads : KeepsLeading old new

-- or declined
pub record DeclinesCall (old new : Asked) (call : Call) : Type 0 where
  pub why : Declined
  pub not_made : IsNotMade old new call why
  pub leads : KeepsLeading old new

abbrev pub is_refused : Reply → Bool
is_refused (Refused why) = true
is_refused said = false

-- a call of a session that has its game is made, as the rules have it
pub record MakesHere (step : Step) (old new : Seen) (call : Call) : Type 0 where
  pub said : Reply
  pub made : IsReplied step old new (event_of call) said
  pub taken : is_refused said ≡ false

-- or the rules refuse it, or memory runs out
pub record DeclinesHere (step : Step) (old new : Seen) (call : Call) : Type 0 where
  pub why : Refusal
  pub answered : IsAnswered step old new (event_of call) (Refused why)
