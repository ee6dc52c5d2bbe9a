use Rattle.std.proofs.Common.{◌≡◌, ℕ, length, take}
use Rattle.std.specs.Prelude.{◌||◌}
use Rattle.roll_requests.specs.Slotted.{is_among, is_taken}
use Rattle.roll_requests.proofs.taken.Taken.fill_all.Given as goal

abbrev pub invariant-loop-slot : goal.invariant-loop-slot
invariant-loop-slot l = record {
  many : length l.self ≡ length l.fn.self;
  filled : (k : ℕ) → is_taken l.self k ≡ (is_taken l.fn.self k || is_among (take l.slot-index l.slots) k);
}
