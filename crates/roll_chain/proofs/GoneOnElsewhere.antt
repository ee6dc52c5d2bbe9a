-- A match has gone on in its next epoch.
use Rattle.std.proofs.Common.{◌≡◌, ℕ, List, Bool, Some, subst}
use Rattle.roll_carry.specs.Carrying.{Carrying}
use Rattle.roll_chain.specs.Judging.{IsOver}
use Rattle.roll_chain.specs.Seams.{opening_after}
use Rattle.roll_chain.specs.declared.seam.Opening.{Opening}
use Rattle.roll_epoch.specs.declared.marks.Ending.{Ending}
use Rattle.roll_peer.specs.Peered.{Peered}
use Rattle.roll_session.specs.Gameless.{Bare}
use Rattle.roll_requests.specs.Asked.{Asked}
use Rattle.roll_requests.specs.declared.request.Request.{Request}
use Rattle.roll_chain.specs.Again.{given_again, ArePlayed}
use Rattle.roll_chain.specs.Calls.{DeclinesCall, MakesCall}
use Rattle.roll_chain.specs.Epochs.{HasGoneOn, HasNotGoneOn}
use Rattle.roll_chain.specs.GoingOnElsewhere.{GoesOn, IsWhyNotGone}
use Rattle.roll_chain.specs.declared.epochs.Epochs.{Epochs}
use Rattle.roll_chain.specs.declared.past.Past.{Past}
use Rattle.roll_chain.specs.declared.seam_refusal.SeamRefusal.{SeamRefusal}

pub gone_on : (old new : Epochs (Bare ℕ)) (peer next : Peered) (relay carrying : Carrying) (session started after : Asked) (closing : List Request)
    (past : Past (Bare ℕ)) (o : Opening) (e : Ending) (all : Bool) → IsOver session.seen old.chain peer e → o ≡ opening_after session.seen old.chain peer e
    → new.past ≡ Some past → GoesOn o old.chain new.chain peer next relay carrying session started past closing
    → ArePlayed MakesCall DeclinesCall started (given_again new.chain.terms next.settings.me past.session.seen o.end) after all
    → HasGoneOn old new peer next relay carrying session after closing
gone_on old new peer next relay carrying session started after closing past o e all over is there goes again = record {
  ending = e;
  over = over;
  started = started;
  past = past;
  past_is = there;
  goes_on = subst (λ (x : Opening). GoesOn x old.chain new.chain peer next relay carrying session started past closing) is goes;
  all = all;
  again = subst (λ (x : Opening). ArePlayed MakesCall DeclinesCall started (given_again new.chain.terms next.settings.me past.session.seen x.end) after all) is again;
}

pub not_gone_on : (old : Epochs (Bare ℕ)) (peer : Peered) (session : Asked) (why : SeamRefusal) (o : Opening) (e : Ending) → IsOver session.seen old.chain peer e
    → o ≡ opening_after session.seen old.chain peer e → IsWhyNotGone o old.chain session why → HasNotGoneOn old peer session why
not_gone_on old peer session why o e over is refused = record {
  ending = e;
  over = over;
  refused = subst (λ (x : Opening). IsWhyNotGone x old.chain session why) is refused;
}
