use Rattle.std.specs.Arc.{arc_value}
use Rattle.std.proofs.Common.{◌≡◌, ◌+◌, ◌++◌, ◌≤◌, ◌*◌, true, map, length, vec_len, vec_capacity}
use Rattle.std.specs.Vec.Iter.{into_iter_items}
use Rattle.crossbeam_deque.specs.Handles.{worker_view, worker_deque, worker_flavor}
use Rattle.roll_pool.specs.Rule.{tally}
use Rattle.roll_pool.specs.Owners.{came_by, collected, rings_of, places_at}
use Rattle.roll_pool.specs.Rings.{signals_at}
use Rattle.roll_pool.specs.Settled.{TakenIn, late_of}
use Rattle.roll_pool.specs.declared.owner.TheConstants.{JOBS_OUT}
use Rattle.roll_pool.specs.declared.results.TheConstants.{RESULT_PLACES}
use Rattle.roll_pool.proofs.owner.Owner.settle.Given as goal

abbrev pub invariant-loop-end : goal.invariant-loop-end
invariant-loop-end g l =
    let rest = into_iter_items l.in_order in let v = worker_view l.deque in
    (goal.iterator-loop-end g).can_next l.end-iterator × (goal.iterator-loop-end g).is_finite l.end-iterator
    × (map (λ e. e.place) (into_iter_items l.end-iterator) ≡ places_at (worker_deque l.deque) (signals_at (arc_value l.signals)) (rings_of rest))
    × (worker_flavor l.deque ≡ 0)
    × (v ≡ tally true v.issued (length rest) 0 v.jobs)
    × (v.issued ≡ (worker_view l.initial.deque).issued)
    × TakenIn v.jobs (worker_view l.initial.deque).jobs (collected (came_by (into_iter_items l.initial.in_order))) (collected (came_by rest)) l.late.items
    × (vec_len l.late + RESULT_PLACES * length rest ≤ JOBS_OUT)
    × (vec_capacity l.late ≡ vec_capacity l.initial.late)
    × (l.late.items ++ late_of (came_by rest) (into_iter_items l.end-iterator) ≡ late_of (came_by (into_iter_items l.initial.in_order)) l.fn.ends.items)
