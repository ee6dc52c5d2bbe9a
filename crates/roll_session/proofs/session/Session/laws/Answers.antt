use Rattle.roll_session.proofs.Holding.{least_of}
use Rattle.roll_session.proofs.session.Session.laws.Goals as goal

pub returns-clause-least : goal.returns-clause-least
returns-clause-least g c = rw (← c.self.view_is, c.laws.ensures.log.core) (least_of _ _ _ c.self.invariant.is_log)
