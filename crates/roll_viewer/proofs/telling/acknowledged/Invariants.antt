use Rattle.std.proofs.Common.{◌≡◌, ◌<◌, ◌≤◌, ℕ, get_or, length}
use Rattle.roll_mesh.specs.declared.limits.TheConstants.{PLAYER_LIMIT}
use Rattle.roll_viewer.proofs.telling.acknowledged.Given as goal

abbrev pub invariant-loop-place : goal.invariant-loop-place
invariant-loop-place l = record {
  all : length l.has ≡ PLAYER_LIMIT;
  done : (k : ℕ) → k < l.place → get_or l.has k 0 ≡ l.rows;
  left : (k : ℕ) → l.place ≤ k → get_or l.has k 0 ≡ 0;
}
