use Rattle.std.proofs.Common.{ap}
use Rattle.roll_frame.specs.Claims.{claim_of}
use Rattle.roll_plan.specs.Plans.{Planned}
use Rattle.roll_session.proofs.Holding.{session_claim}
use Rattle.roll_session.proofs.Shown.{told_of}
use Rattle.roll_session.specs.Standing.{as_planned}
use Rattle.roll_session.proofs.gameless.Core.claim.Goals as goal

pub returns-clause-claim : goal.returns-clause-claim
returns-clause-claim g c =
    rw (← c.self.view_is) (session_claim c.self.invariant.0 c.claim.result c.claim.ensures.claim)

pub returns-clause-last : goal.returns-clause-last
returns-clause-last g c =
    rw (← c.self.view_is)
    (told_of (claim_of c.self.inside.settings.players) as_planned _ _ c.claim.result (ap (λ (p : Planned). p.last) c.self.invariant.0.plan) c.claim.ensures.made (session_claim c.self.invariant.0 c.claim.result c.claim.ensures.claim))
