use Rattle.roll_session.proofs.WithGame.{has_started}
use Rattle.roll_session.proofs.session.Session.start.Goals as goal

pub invariant_of-result : goal.invariant_of-result
invariant_of-result g c =
    has_started c.in-Ok-new.core _ c.args.settings c.in-Ok.first c.in-Ok-load.state c.in-Ok-new.ensures.accepted c.in-Ok-new.ensures.seen c.in-Ok-new.ensures.alone c.laws.ensures.inputs c.in-Ok.ensures.value c.in-Ok-load.ensures.value
