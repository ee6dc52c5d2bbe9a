use Rattle.std.proofs.Common.{◌≡◌, ◌<◌, ◌≤◌, ℕ}
use Rattle.std.specs.Int.{bit_at}
use Rattle.roll_tree.specs.Marks.{differ_at, bit_of}
use Rattle.roll_tree.proofs.marks.marks_of.Given as goal

-- the marks of the places so far are there, and no others
abbrev pub invariant-loop-place : goal.invariant-loop-place
invariant-loop-place l = record {
  below : (k : ℕ) → k < l.place → bit_at l.marks k ≡ bit_of (differ_at l.row l.there k);
  above : (k : ℕ) → l.place ≤ k → bit_at l.marks k ≡ 0;
}
