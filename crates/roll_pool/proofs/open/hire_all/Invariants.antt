use Rattle.std.specs.Arc.{arc_value}
use Rattle.std.proofs.Common.{◌≡◌, ◌≤◌, [], true, map, replicate, vec_len, vec_capacity}
use Rattle.crossbeam_deque.specs.Handles.{worker_view, worker_deque, worker_flavor, worker_index, worker_capacity}
use Rattle.roll_pool.specs.Rule.{tally}
use Rattle.roll_pool.specs.Owners.{came_by, rings_of, places_at}
use Rattle.roll_pool.specs.Rings.{signals_at}
use Rattle.roll_pool.specs.Workers.{fresh}
use Rattle.roll_pool.proofs.open.hire_all.Given as goal

abbrev pub invariant-loop : goal.invariant-loop
invariant-loop g l =
    (worker_view l.deque ≡ tally true [] l.counter 0 []) × (worker_deque l.deque ≡ worker_deque l.initial.deque) × (worker_flavor l.deque ≡ worker_flavor l.initial.deque) × (worker_index l.deque ≡ worker_index l.initial.deque) × (worker_capacity l.initial.deque ≤ worker_capacity l.deque)
    × (l.ends.items ≡ map fresh (places_at (worker_deque l.deque) (signals_at (arc_value l.signals)) (rings_of l.rings.items))) × (came_by l.rings.items ≡ replicate l.counter [])
    × (vec_len l.rings ≡ l.counter) × (vec_len l.ends ≡ l.counter) × (vec_capacity l.rings ≡ vec_capacity l.initial.rings) × (vec_capacity l.ends ≡ vec_capacity l.initial.ends)
