use Rattle.std.proofs.Common.{◌≡◌, ◌≤◌, ℕ, length, max}
use Rattle.std.specs.Prelude.{vec_capacity}
use Rattle.roll_requests.specs.Slotted.{is_taken}
use Rattle.roll_requests.specs.declared.limits.TheConstants.{SLOTS}
use Rattle.roll_requests.proofs.taken.Taken.lengthen.Given as goal

abbrev pub invariant-loop : goal.invariant-loop
invariant-loop l = record {
  many : length l.self-inside.taken.items ≡ l.counter;
  most : l.counter ≤ max (length l.fn.self) l.len;
  room : SLOTS ≤ vec_capacity l.self-inside.taken;
  same : (k : ℕ) → is_taken l.self-inside.taken.items k ≡ is_taken l.fn.self k;
}
