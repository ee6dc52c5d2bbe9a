use Rattle.std.proofs.Common.{◌≡◌, ℕ, length, take}
use Rattle.std.specs.Prelude.{◌||◌}
use Rattle.roll_requests.specs.Slotted.{is_saved, is_taken}
use Rattle.roll_requests.proofs.taken.Taken.fill_saved.Given as goal

abbrev pub invariant-loop-place : goal.invariant-loop-place
invariant-loop-place l = record {
  many : length l.self ≡ length l.fn.self;
  filled : (k : ℕ) → is_taken l.self k ≡ (is_taken l.fn.self k || is_saved (take l.place l.tree.states) k);
}
