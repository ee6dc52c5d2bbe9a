use Rattle.std.proofs.Common.{ap, arith, sym, subst, List, ℕ, length, length-append, ◌∷◌, []}
use Rattle.roll_plan.proofs.Climbing.{IsClimbed, climbed_kept, climbed_low, climbed_more, climbed_way, first_climbed, way_short}
use Rattle.roll_plan.proofs.planner.way_to.Goals as goal

pub loop-above-init : goal.loop-above-init
loop-above-init g c =
    let t = c.args.tree.now in
    subst (λ (l : List ℕ). IsClimbed t c.args.start c.args.start l) (sym c.new-names.ensures) (first_climbed t c.args.start c.requires.kept)

pub above-requires : goal.above-requires
above-requires g c = climbed_kept c.args.tree.now c.args.start c.loop-above.at c.loop-above.names.items c.loop-above.invariant

pub push-requires : goal.push-requires
push-requires g c =
    let t = c.args.tree.now in
    let over = rw c.in-Some.is at c.above.ensures in
    let low = climbed_low t c.args.start c.loop-above.at c.loop-above.names.items c.in-Some.above c.loop-above.invariant over in
    let short = way_short t c.args.start c.requires.kept c.laws.ensures.short in
    (omega arith, omega (arith, low, short))

pub loop-above-preserved : goal.loop-above-preserved
loop-above-preserved g c =
    let t = c.args.tree.now in
    let over = rw c.in-Some.is at c.above.ensures in
    subst (λ (l : List ℕ). IsClimbed t c.args.start c.in-Some.above.node l) (sym c.push.ensures.items)
    (climbed_more t c.args.start c.loop-above.at c.loop-above.names.items c.in-Some.above c.loop-above.invariant over)

pub loop-above-smaller : goal.loop-above-smaller
loop-above-smaller g c =
    let over = rw c.in-Some.is at c.above.ensures in
    let low = climbed_low c.args.tree.now c.args.start c.loop-above.at c.loop-above.names.items c.in-Some.above c.loop-above.invariant over in
    omega (arith, low, ap (λ (l : List ℕ). length l) c.push.ensures.items, length-append c.loop-above.names.items (c.loop-above.at ∷ []))

pub returns : goal.returns
returns g c =
    let over = rw c.in_default.is at c.above.ensures in
    climbed_way c.args.tree.now c.args.start c.loop-above.at c.loop-above.names.items c.loop-above.invariant over
