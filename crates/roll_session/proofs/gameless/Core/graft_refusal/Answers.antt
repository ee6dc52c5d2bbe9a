use Rattle.std.proofs.Common.{◌∙◌, sym, arith}
use Rattle.roll_session.proofs.Bares.{route_refused}
use Rattle.roll_session.proofs.Judging.{refused_first, refused_full, refused_none}
use Rattle.roll_session.proofs.gameless.Core.graft_refusal.Goals as goal

pub returns-then-is_some : goal.returns-then-is_some
returns-then-is_some g c =
    let told = route_refused c.self.invariant.0 c.self.inside.room.promised c.args.same c.args.route.now c.from-most.result c.route_refusal-refusal.result (c.from-most.ensures ∙ c.branch_limit.ensures) c.route_refusal-refusal.ensures in
    rw (← c.self.view_is) (refused_first _ _ _ told (sym c.is_some.ensures ∙ c.if-is_some.true))

pub returns-then-len-self : goal.returns-then-len-self
returns-then-len-self g c =
    let told = route_refused c.self.invariant.0 c.self.inside.room.promised c.args.same c.args.route.now c.from-most.result c.route_refusal-refusal.result (c.from-most.ensures ∙ c.branch_limit.ensures) c.route_refusal-refusal.ensures in
    rw (← c.self.view_is) (refused_full _ _ _ _ told (sym c.is_some.ensures ∙ c.if-is_some.false) (omega (arith, c.len.ensures)))

pub returns-else-len-self : goal.returns-else-len-self
returns-else-len-self g c =
    let told = route_refused c.self.invariant.0 c.self.inside.room.promised c.args.same c.args.route.now c.from-most.result c.route_refusal-refusal.result (c.from-most.ensures ∙ c.branch_limit.ensures) c.route_refusal-refusal.ensures in
    rw (← c.self.view_is) (refused_none _ _ _ _ told (sym c.is_some.ensures ∙ c.if-is_some.false) (omega (arith, c.len.ensures)))
