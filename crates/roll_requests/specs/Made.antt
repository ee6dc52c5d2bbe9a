-- What a call of a session of a game elsewhere comes to.
use Rattle.std.specs.Prelude.{◌≡◌, List, [], ◌∷◌, refl}
use Rattle.std.proofs.Common.{subst}
use Rattle.roll_frame.specs.Events.{log_from, reply}
use Rattle.roll_frame.specs.declared.reply.Reply.{Reply}
use Rattle.roll_frame.specs.declared.reply.Reply.TheVariants.{Refused}
use Rattle.roll_requests.specs.Asked.{Asked, IsDeclinedRoll, IsIdle, Leads, Rolls}
use Rattle.roll_requests.specs.declared.declined.Declined.{Declined}
use Rattle.roll_requests.specs.declared.declined.Declined.TheVariants.{Refused as RefusedBy, NoSlots}
use Rattle.roll_requests.specs.declared.request.Request.{Request}
use Rattle.roll_session.specs.Answered.{with_entries, IsAnswered}
use Rattle.roll_session.specs.Calls.{event_of}
use Rattle.roll_session.specs.Gameless.{still}
use Rattle.roll_session.specs.Others.{hears_more, hears_nothing, Hears}
use Rattle.roll_session.specs.Seen.{game_of}
use Rattle.roll_session.specs.declared.event.Call.{Call}
use Rattle.roll_session.specs.declared.event.Call.TheVariants.{Sync, Advance}
use Rattle.roll_session.specs.declared.event.Reached.{Reached}

-- wherever the requests led before, they still do
abbrev pub KeepsLeading : Asked → Asked → Type 0
KeepsLeading old new = (past : List Request) → Leads past old → Leads past new

-- what others say is heard, asks for nothing, and is nothing to the jobs
pub record Keeps (old new : Asked) : Type 0 where
  pub hears : Hears still old.seen new.seen
  pub rest : new ≡ record old { seen = new.seen; saves = new.saves }
  pub leads : KeepsLeading old new

pub keeps_itself : (it : Asked) → Keeps it it
keeps_itself it = record { hears = hears_nothing still it.seen; rest = refl; leads = λ past leads. leads }

pub keeps_on : (a b c : Asked) → Keeps a b → Keeps b c → Keeps a c
keeps_on a b c one two = record {
  hears = hears_more still a.seen b.seen c.seen one.hears two.hears;
  rest = subst (λ (e : Asked). c ≡ record e { seen = c.seen; saves = c.saves }) one.rest two.rest;
  leads = λ past leads. two.leads past (one.leads past leads);
}

-- a call that rolls asks for the frames of its roll, and leaves the jobs as they are
pub record RollsBy (old new : Asked) (call : Call) : Type 0 where
  pub reached : Reached
  pub rolls : Rolls old new call reached
  pub jobs : new.jobs ≡ old.jobs
  pub limit : new.limit ≡ old.limit

abbrev pub AsksFor : Asked → Asked → Call → Type 0
AsksFor old new Sync = RollsBy old new Sync
AsksFor old new Advance = RollsBy old new Advance
AsksFor old new call = new ≡ record old { seen = new.seen; saves = new.saves }

-- the rules' reply to a call, and what they make of the session; of a game elsewhere nothing is counted
pub record IsMade (old new : Asked) (call : Call) (said : Reply) : Type 0 where
  pub said_is : said ≡ reply old.seen.settings (game_of still old.seen) old.seen.core (event_of call)
  pub seen : new.seen ≡ with_entries old.seen (log_from old.seen.settings (game_of still old.seen) old.seen.core (event_of call ∷ [])) old.seen.counts
  pub asks : AsksFor old new call

-- a call that rolls is declined: the rules refuse it, or slots ran out, or memory, which was not promised then; nothing is changed,
-- but that more may be reserved
abbrev pub IsNotRolled : Asked → Asked → Call → Declined → Type 0
IsNotRolled old new call why =
    IsDeclinedRoll old.seen old.saves.tree.states old.jobs old.requests old.limit call why × IsIdle old new

-- any other is refused, by the rules or for want of memory
abbrev pub IsNotMade : Asked → Asked → Call → Declined → Type 0
IsNotMade old new Sync why = IsNotRolled old new Sync why
IsNotMade old new Advance why = IsNotRolled old new Advance why
IsNotMade old new call (RefusedBy why) =
    IsAnswered still old.seen new.seen (event_of call) (Refused why)
    × (new ≡ record old { seen = new.seen; saves = new.saves })
IsNotMade old new call NoSlots = ⊥
