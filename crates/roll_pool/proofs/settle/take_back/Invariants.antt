use Rattle.std.proofs.Common.{◌≡◌, ◌++◌, ◌-◌, length, drop, vec_capacity}
use Rattle.crossbeam_deque.specs.Handles.{worker_view, worker_flavor}
use Rattle.roll_pool.specs.Rule.{tally}
use Rattle.roll_pool.proofs.settle.take_back.Given as goal

abbrev pub invariant-loop-job : goal.invariant-loop-job
invariant-loop-job g l =
    let v = worker_view l.initial.deque in
    (worker_view l.deque ≡ tally v.owns v.issued v.others v.out (v.jobs ++ l.left.items))
    × (worker_flavor l.deque ≡ 0) × (vec_capacity l.left ≡ vec_capacity l.initial.left)
    × (l.left.items ++ drop (length (worker_view l.deque).jobs) v.issued ≡ drop (length v.jobs) v.issued)

abbrev pub decreases-loop-job : goal.decreases-loop-job
decreases-loop-job g l = length (worker_view l.deque).issued - length (worker_view l.deque).jobs
