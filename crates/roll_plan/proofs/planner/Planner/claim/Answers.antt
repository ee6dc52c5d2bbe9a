use Rattle.std.proofs.Common.{sym, ap, subst, ℕ}
use Rattle.roll_plan.specs.Fields.{planned_in}
use Rattle.roll_plan.specs.Plans.{Planned, IsClaimOf}
use Rattle.roll_plan.proofs.Claims.{planned_is_right}
use Rattle.roll_plan.proofs.Seen.{at_last}
use Rattle.roll_plan.proofs.planner.Planner.claim.Goals as goal

pub returns-in-Ok-clause-right : goal.returns-in-Ok-clause-right
returns-in-Ok-clause-right c =
    let p = c.self.inside in
    let players = ap (λ (s : Planned). s.players) c.self.view_is in
    let is = at_last p c.args.self.now (λ made. IsClaimOf c.args.self.now.players made c.in-Ok.claim) (sym c.self.view_is) c.if-not-self.false c.in-Ok.ensures in
    planned_is_right p.players (planned_in p) (c.self.invariant.last c.if-not-self.false).fit c.in-Ok.claim (subst (λ (n : ℕ). IsClaimOf n (planned_in p) c.in-Ok.claim) (sym players) is)
