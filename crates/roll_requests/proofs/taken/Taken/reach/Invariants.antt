use Rattle.std.proofs.Common.{◌≡◌, ◌<◌, ◌≤◌, ℕ, length, take}
use Rattle.std.specs.Prelude.{All}
use Rattle.roll_requests.specs.Slotted.{is_taken}
use Rattle.roll_requests.proofs.taken.Taken.reach.Given as goal

abbrev pub invariant-loop-slot : goal.invariant-loop-slot
invariant-loop-slot l = record {
  within : All (λ slot. slot < length l.self) (take l.slot-index l.slots);
  same : (k : ℕ) → is_taken l.self k ≡ is_taken l.fn.self k;
  many : length l.fn.self ≤ length l.self;
}
