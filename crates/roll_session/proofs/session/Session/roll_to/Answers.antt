use Rattle.roll_session.proofs.Answering.{rolled_answered}
use Rattle.roll_session.proofs.session.Session.roll_to.Goals as goal

pub returns-clause-answered : goal.returns-clause-answered
returns-clause-answered g c =
    rolled_answered g.G.Game.step c.args.self.now c.admit.new.self c.roll_on.new.self c.args.call c.args.to c.in_ok-admit.field-0 c.roll_on.result c.requires.to c.in_ok-admit.ensures.heard c.roll_on.ensures.entered c.roll_on.ensures.cut c.roll_on.ensures.why
