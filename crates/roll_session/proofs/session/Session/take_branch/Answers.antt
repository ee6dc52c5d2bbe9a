use Rattle.std.proofs.Common.{ap}
use Rattle.roll_session.specs.Seen.{Seen}
use Rattle.roll_session.proofs.WithGame.{graft_bare, has_grafted}
use Rattle.roll_session.proofs.session.Session.take_branch.Goals as goal

pub enter_branch-requires-clause-accepted : goal.enter_branch-requires-clause-accepted
enter_branch-requires-clause-accepted g c =
    let e = c.into_parts-ticket.ensures in
    rw e.route (graft_bare g.G.Game.step _ (g.G.RawGame.call_counts c.self.inside.game) c.self.inside.core.seen c.args.branch (ap (λ (t : Seen). t.opening) c.laws.ensures.bare) (rw (← c.self.view_is) at c.requires.accepted))

pub invariant_of-self : goal.invariant_of-self
invariant_of-self g c =
    let l = c.laws.ensures in
    let p = c.into_parts-ticket.ensures in
    let e = rw (p.ticket, p.route) at c.enter_branch.ensures in
    has_grafted c.self.inside.core c.self.invariant l.log l.inputs l.kept c.enter_branch.new.self c.args.branch (g.G.RawGame.call_counts c.self.inside.game) c.into_parts-ticket.result.states.items (rw (← c.self.view_is) at c.requires.accepted) e.entered p.states e.keeps
