use Rattle.std.proofs.Common.{sym, subst}
use Rattle.std.specs.Prelude.{Option}
use Rattle.roll_chain.specs.Epochs.{judged_in}
use Rattle.roll_chain.specs.GoingOnHere.{IsWhyNotGone}
use Rattle.roll_chain.specs.declared.epochs.Epochs.{Epochs}
use Rattle.roll_chain.specs.declared.onward_refusal.OnwardRefusal.{OnwardRefusal}
use Rattle.roll_chain.specs.declared.onward_refusal.OnwardRefusal.TheVariants.{NotOver, Session, Network}
use Rattle.roll_chain.specs.declared.seam_refusal.SeamRefusal.{SeamRefusal}
use Rattle.roll_peer.specs.Peered.{Peered}
use Rattle.roll_session.specs.Gameless.{Bare}
use Rattle.roll_session.specs.Seen.{Seen, Step}
use Rattle.roll_match.specs.Turning.{why_over, StaysHere}
use Rattle.roll_match.proofs.lasting.SessionLasting.go_on.Goals as goal

stays : {N : Type 0} (step : Step) (old : Epochs (Bare N)) (peer : Peered) (session : Seen) (why : OnwardRefusal)
    → IsWhyNotGone step old.chain peer session why → StaysHere step old peer session (why_over why)
stays step old peer session NotOver is = is
stays step old peer session (Session why) is = is
stays step old peer session (Network why) is = is

pub returns-in-Err-clause-why : goal.returns-in-Err-clause-why
returns-in-Err-clause-why g c =
    let peer = judged_in c.args.epochs.now c.args.peer.now in
    subst (λ (why : Option SeamRefusal). StaysHere g.G.Game.step c.args.epochs.now peer c.args.self.now why) (sym c.why_over.ensures)
    (stays g.G.Game.step c.args.epochs.now peer c.args.self.now c.in-Err.field-0.why c.in-Err.ensures.refused)
