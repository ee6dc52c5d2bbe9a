use Rattle.roll_session.proofs.Holding.{session_plan}
use Rattle.roll_session.proofs.gameless.Core.last_plan.Goals as goal

pub returns-clause-plan : goal.returns-clause-plan
returns-clause-plan g c =
    rw (← c.self.view_is) (session_plan c.self.invariant.0 _ c.last.result c.last.ensures.plan)
