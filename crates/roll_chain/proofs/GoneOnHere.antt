-- A match has gone on in its next epoch, or it hasn't.
use Rattle.std.proofs.Common.{◌≡◌, Bool, Some, inr, subst}
use Rattle.roll_carry.specs.Carrying.{Carrying}
use Rattle.roll_chain.specs.Judging.{IsOver}
use Rattle.roll_chain.specs.Seams.{opening_after}
use Rattle.roll_chain.specs.declared.chain.Chain.{Chain}
use Rattle.roll_chain.specs.declared.seam.Opening.{Opening}
use Rattle.roll_epoch.specs.declared.marks.Ending.{Ending}
use Rattle.roll_peer.specs.Peered.{Peered}
use Rattle.roll_chain.specs.Again.{given_again, ArePlayed}
use Rattle.roll_chain.specs.Calls.{DeclinesHere, MakesHere}
use Rattle.roll_chain.specs.declared.epochs.Epochs.{Epochs}
use Rattle.roll_chain.specs.declared.past.Past.{Past}
use Rattle.roll_session.specs.Gameless.{Bare}
use Rattle.roll_session.specs.Seen.{Seen, Step}
use Rattle.roll_chain.specs.GoingOnHere.{GoesOnward, HasGoneOn, IsWhyNotFollowed, IsWhyNotGone}
use Rattle.roll_chain.specs.declared.onward_refusal.OnwardRefusal.{OnwardRefusal}

pub gone_on : {N : Type 0} (step : Step) (old new : Epochs (Bare N)) (peer next : Peered) (relay carrying : Carrying) (session started after : Seen)
    (past : Past (Bare N)) (o : Opening) (e : Ending) (all : Bool) → IsOver session old.chain peer e → o ≡ opening_after session old.chain peer e
    → new.past ≡ Some past → GoesOnward step o old.chain new.chain peer next relay carrying session started past
    → ArePlayed (MakesHere step) (DeclinesHere step) started (given_again new.chain.terms next.settings.me past.session.seen o.end) after all
    → HasGoneOn step old new peer next relay carrying session after
gone_on step old new peer next relay carrying session started after past o e all over is there goes again = record {
  ending = e;
  over = over;
  started = started;
  past = past;
  past_is = there;
  goes_on = subst (λ (x : Opening). GoesOnward step x old.chain new.chain peer next relay carrying session started past) is goes;
  all = all;
  again = subst (λ (x : Opening). ArePlayed (MakesHere step) (DeclinesHere step) started (given_again new.chain.terms next.settings.me past.session.seen x.end) after all) is again;
}

pub not_gone_on : (step : Step) (chain : Chain) (peer : Peered) (session : Seen) (why : OnwardRefusal) (o : Opening) (e : Ending)
    → IsOver session chain peer e → o ≡ opening_after session chain peer e → IsWhyNotFollowed step o chain session why
    → IsWhyNotGone step chain peer session why
not_gone_on step chain peer session why o e over is refused =
    inr (e, over, subst (λ (x : Opening). IsWhyNotFollowed step x chain session why) is refused)
