use Rattle.roll_session.proofs.WithGame.{answered_there, has_heard}
use Rattle.roll_session.proofs.session.Session.take.Goals as goal

pub invariant_of-self : goal.invariant_of-self
invariant_of-self g c =
    let e = c.take.ensures in
    has_heard c.self.inside.core c.self.invariant c.take.new.self c.args.call _ c.requires.input c.laws.ensures.log e.answered e.keeps e.shown

pub returns : goal.returns
returns g c =
    let e = c.take.ensures in
    rw (← c.self.view_is) (answered_there g.G.Game.step _ _ c.args.call c.requires.input c.self.inside.core.seen c.take.new.self.seen _ e.answered)
