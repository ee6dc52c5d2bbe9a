use Rattle.std.proofs.Common.{◌≡◌, vec_len}
use Rattle.roll_pool.proofs.owner.Owner.collect.Given as goal

abbrev pub invariant-loop-place : goal.invariant-loop-place
invariant-loop-place g l =
    let old = l.initial.self-inside in let new = l.self-inside in
    (new.rings.items ≡ old.rings.items) × (vec_len new.rings ≡ vec_len old.rings) × (new.deque ≡ old.deque) × (new.issued ≡ old.issued) × (new.collected ≡ old.collected) × (new.late ≡ old.late) × (new.left ≡ old.left) × (new.signals ≡ old.signals) × (new.withdrawn ≡ old.withdrawn)
