use Rattle.std.proofs.Common.{◌-◌, arith, length, length-take, sym, ap, ◌∙◌, refl, map, take, List}
use Rattle.roll_frame.proofs.Beginnings.{longest_within}
use Rattle.roll_frame.specs.Order.{in_order}
use Rattle.roll_tree.specs.SavedStates.{path_of}
use Rattle.roll_frame.specs.Cells.{Rows}
use Rattle.roll_plan.specs.Fields.{planned_in, way_in}
use Rattle.roll_plan.specs.Plans.{Planned, IsClaimOf}
use Rattle.roll_plan.proofs.Claims.{claim_on}
use Rattle.roll_plan.specs.Spelled.{all_paths}
use Rattle.roll_plan.specs.declared.planner.Taken.{Taken}
use Rattle.roll_plan.proofs.Seen.{of_last, was_made}
use Rattle.roll_plan.proofs.planner.Planner.copied.Goals as goal

pub slice_bounds-way-end : goal.slice_bounds-way-end
slice_bounds-way-end c =
    let p = c.self.inside in
    let made = was_made p c.args.self.now (sym c.self.view_is) c.requires in
    let fit = (c.self.invariant.last made).fit in
    let within = longest_within (planned_in p).kept p.time.items in
    let time = ap (λ (rows : Rows). length rows) c.as_slice-2.ensures.value in
    omega (arith, fit.from_is, within, time, length-take (p.plan.from - p.base) c.as_slice-2.result.now)

pub returns : goal.returns
returns c =
    let p = c.self.inside in
    let players = ap (λ (s : Planned). s.players) c.self.view_is in
    let made = was_made p c.args.self.now (sym c.self.view_is) c.requires in
    let last = c.self.invariant.last made in
    let time = c.from-time.ensures ∙ c.in_ok-from_slice.ensures.items ∙ c.as_slice.ensures.value in
    let kept =
    c.from-kept.ensures
    ∙ c.in_ok-paths_of.ensures
    ∙ ap (λ (rows : Rows). map (path_of p.base) (in_order (all_paths (take (p.plan.from - p.base) rows) p.on_way c.deref.result.now))) c.as_slice-2.ensures.value
    ∙ ap (λ (l : List Taken). map (path_of p.base) (in_order (all_paths (way_in p) p.on_way l))) c.deref.ensures.value in
    let differs = c.from-differs.ensures ∙ c.in_ok-from_slice-2.ensures.items ∙ c.deref-2.ensures.value in
    of_last p c.args.self.now (λ m. IsClaimOf c.args.self.now.players m _) (sym c.self.view_is) made
    (λ settled e. claim_on c.args.self.now.players (planned_in p) settled _ e last.fit.ordered players refl time kept refl (differs ∙ last.plan.differs settled e))
