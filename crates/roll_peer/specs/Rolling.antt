-- What a turn makes of its session.
use Rattle.std.specs.Prelude.{◌≡◌, ◌⊎◌}
use Rattle.roll_frame.specs.declared.refusal.Refusal.TheVariants.{NoMemory}
use Rattle.roll_frame.specs.declared.reply.Reply.{Reply}
use Rattle.roll_frame.specs.declared.reply.Reply.TheVariants.{Refused}
use Rattle.roll_session.specs.Answered.{IsAnswered}
use Rattle.roll_session.specs.Calls.{event_of, IsRoll}
use Rattle.roll_session.specs.Others.{Hears}
use Rattle.roll_session.specs.Seen.{Seen, Step}
use Rattle.roll_session.specs.declared.event.Call.{Call}

-- a sync or an advance was asked for, and answered by the rules, or for want of memory, which is told if and only if it is so
pub record IsRolled (step : Step) (old new : Seen) (is_told : Type 0) : Type 0 where
  pub call : Call
  pub is_roll : IsRoll call
  pub said : Reply
  pub answered : IsAnswered step old new (event_of call) said
  pub short : said ≡ Refused NoMemory → is_told
  pub only : is_told → said ≡ Refused NoMemory

-- one roll at most
abbrev pub RollsOnce : Step → Seen → Seen → Type 0 → Type 0
RollsOnce step old new is_told = (new ≡ old) ⊎ IsRolled step old new is_told

-- what others say is heard, and then comes one roll at most
pub record TurnsOnce (step : Step) (old new : Seen) (is_told : Type 0) : Type 0 where
  pub between : Seen
  pub hears : Hears step old between
  pub rolls : RollsOnce step between new is_told
