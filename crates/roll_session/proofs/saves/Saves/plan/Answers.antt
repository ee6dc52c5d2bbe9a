use Rattle.std.proofs.Common.{◌≡◌, ◌∙◌, Some, subst}
use Rattle.std.specs.Prelude.{IsSomeAnd}
use Rattle.roll_plan.specs.Plans.{planned_roll}
use Rattle.roll_tree.specs.SavedStates.{state_named}
use Rattle.roll_session.specs.Standing.{rows_from}
use Rattle.roll_session.proofs.Rolling.{plan_fits}
use Rattle.roll_session.proofs.Steps.{time_is, told_is}
use Rattle.roll_session.proofs.Ways.{is_past, place_is}
use Rattle.roll_session.proofs.saves.Saves.plan.Goals as goal

pub plan_from-requires-clause-can : goal.plan_from-requires-clause-can
plan_from-requires-clause-can g c =
    let i = c.self.inside in
    let way = c.args.way.now in
    let going = rw (← c.self.view_is) at c.requires.going in
    let time = rw (← c.self.view_is) at c.requires.time in
    let paths = rw (← c.self.view_is) at c.requires.paths in
    plan_fits i.tree i.board.players i.board.settled way.to c.args.planner.now.players i.board.frame c.self.invariant.base c.self.invariant.told (is_past _ way going) going.told c.laws.ensures.reached c.laws.ensures.short time paths

pub plan_from-requires-clause-start : goal.plan_from-requires-clause-start
plan_from-requires-clause-start g c =
    let i = c.self.inside in
    let way = c.args.way.now in
    let going = rw (← c.self.view_is) at c.requires.going in
    told_is i.tree i.board.players i.board.settled way.to c.self.invariant.base c.self.invariant.told (is_past _ way going) going.told way.at
    (subst (λ n. IsSomeAnd (state_named i.tree way.at) (λ u. u.path ≡ rows_from i.board.players i.board.settled n)) (place_is _ way going) going.here)

pub plan_from-requires-clause-starts : goal.plan_from-requires-clause-starts
plan_from-requires-clause-starts g c =
    let i = c.self.inside in
    let way = c.args.way.now in
    let going = rw (← c.self.view_is) at c.requires.going in
    let rows = time_is i.tree i.board.players i.board.settled way.to c.self.invariant.base c.self.invariant.told (is_past _ way going) going.told in
    rw (rows, c.self.invariant.base) going.deepest

pub returns : goal.returns
returns g c =
    let i = c.self.inside in
    let way = c.args.way.now in
    let going = rw (← c.self.view_is) at c.requires.going in
    let rows = time_is i.tree i.board.players i.board.settled way.to c.self.invariant.base c.self.invariant.told (is_past _ way going) going.told in
    rw (← c.self.view_is) (c.plan_from.ensures ∙ (λ j. record c.args.planner.now { last = Some (planned_roll i.tree (rows j)) }))
