use Rattle.std.proofs.Common.{◌≡◌, ◌++◌, ◌+◌, length, vec_len, vec_capacity}
use Rattle.rtrb.specs.Ring.{known_items}
use Rattle.roll_pool.proofs.settle.take_pass.Given as goal

abbrev pub invariant-loop : goal.invariant-loop
invariant-loop g l =
    (ys : _) × (l.late.items ≡ l.initial.late.items ++ ys) × (known_items l.initial.consumer ≡ ys ++ known_items l.consumer) × (length ys ≡ l.counter)
    × (vec_len l.late ≡ vec_len l.initial.late + l.counter) × (vec_capacity l.late ≡ vec_capacity l.initial.late)
