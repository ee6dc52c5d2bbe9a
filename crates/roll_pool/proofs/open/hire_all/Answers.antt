use Rattle.std.proofs.Common.{◌≡◌, ◌∙◌, ◌++◌, ◌∷◌, [], ap, arith, map, sym}
use Rattle.crossbeam_deque.specs.Handles.{worker_deque}
use Rattle.std.specs.Arc.{arc_value}
use Rattle.roll_pool.specs.Owners.{places_at, rings_of}
use Rattle.roll_pool.specs.Rings.{signals_at}
use Rattle.roll_pool.specs.Rule.{counting_out}
use Rattle.roll_pool.specs.Workers.{fresh}
use Rattle.roll_pool.proofs.Hiring.{came_more, ends_more}
use Rattle.roll_pool.proofs.open.hire_all.Goals as goal

pub loop-preserved : goal.loop-preserved
loop-preserved g c =
    let l = c.loop in
    let i = l.invariant in
    let e = c.in_ok-ring.ensures in
    let rings : c.push_reserved.new.self.items ≡ l.rings.items ++ c.in_ok-ring.ring ∷ [] = c.push_reserved.ensures.items in
    let ends : c.push_reserved-in-loop.new.self.items ≡ l.ends.items ++ c.in_ok-ring.end ∷ [] = c.push_reserved-in-loop.ensures.items in
    let are : l.ends.items ≡ map fresh (places_at (worker_deque c.hire.new.deque) (signals_at (arc_value c.args.signals.now)) (rings_of l.rings.items)) =
    i.5 ∙ ap (λ d. map fresh (places_at d (signals_at (arc_value c.args.signals.now)) (rings_of l.rings.items))) (sym e.same.0) in (
      e.view ∙ ap counting_out i.0,
      e.same.0 ∙ i.1,
      e.same.1 ∙ i.2,
      e.same.2 ∙ i.3,
      omega (arith, e.same.3, i.4),
      rw (rings, ends) (ends_more (worker_deque c.hire.new.deque) (signals_at (arc_value c.args.signals.now)) l.rings.items l.ends.items c.in_ok-ring.ring c.in_ok-ring.end are e.ends.1),
      rw rings (came_more l.rings.items c.in_ok-ring.ring l.counter i.6 e.ends.0),
      omega (arith, c.push_reserved.ensures.len, i.7),
      omega (arith, c.push_reserved-in-loop.ensures.len, i.8),
      c.push_reserved.ensures.capacity ∙ i.9,
      c.push_reserved-in-loop.ensures.capacity ∙ i.10,
    )
