use Rattle.roll_session.proofs.WithGame.{all_refused_there}
use Rattle.roll_session.proofs.session.Session.admit.Goals as goal

pub returns-clause-refused : goal.returns-clause-refused
returns-clause-refused g c =
    let e = c.admit.ensures in
    rw (← c.self.view_is) (all_refused_there g.G.Game.step _ _ c.args.call c.self.inside.core c.admit.new.self c.admit.result e.refused e.unchanged)
