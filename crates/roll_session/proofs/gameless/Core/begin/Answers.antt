use Rattle.std.proofs.Common.{◌∙◌, arith}
use Rattle.roll_session.proofs.Entering.{is_near, starts, states_fit}
use Rattle.roll_session.proofs.Rolled.{frame_is}
use Rattle.roll_session.proofs.Bares.{with_room}
use Rattle.roll_session.proofs.gameless.Core.begin.Goals as goal

pub way_to-requires-clause-from : goal.way_to-requires-clause-from
way_to-requires-clause-from g c =
    let to = rw (← c.self.view_is) at c.goal_of-to.ensures in
    omega (arith, is_near c.self.invariant.0 c.args.call c.goal_of-to.result to, frame_is c.self.invariant.0, c.laws.ensures.reached)

pub way_to-requires-clause-near : goal.way_to-requires-clause-near
way_to-requires-clause-near g c =
    let to = rw (← c.self.view_is) at c.goal_of-to.ensures in
    omega (arith, is_near c.self.invariant.0 c.args.call c.goal_of-to.result to, frame_is c.self.invariant.0, c.laws.ensures.near)

pub way_to-requires-clause-fits : goal.way_to-requires-clause-fits
way_to-requires-clause-fits g c =
    let to = rw (← c.self.view_is) at c.goal_of-to.ensures in
    states_fit c.self.invariant.0 c.args.call c.goal_of-to.result to

pub returns-clause-to : goal.returns-clause-to
returns-clause-to g c =
    let to = rw (← c.self.view_is) at c.goal_of-to.ensures in
    rw (← c.self.view_is, c.way_to.ensures.to) to

pub returns-clause-going : goal.returns-clause-going
returns-clause-going g c = with_room c.way_to.new.self c.way_to.result c.way_to.ensures.going

pub returns-clause-from : goal.returns-clause-from
returns-clause-from g c =
    let to = rw (← c.self.view_is) at c.goal_of-to.ensures in
    rw (← c.self.view_is, c.way_to.ensures.to) (c.way_to.ensures.from ∙ starts c.self.invariant.0 c.args.call c.goal_of-to.result to)
