use Rattle.std.proofs.Common.{◌≡◌, ℕ, ◌<◌, length, get_or}
use Rattle.roll_mesh.specs.declared.limits.TheConstants.{PLAYER_LIMIT}
use Rattle.std.proofs.Common.{None}
use Rattle.roll_chain.specs.Rows.{counted_at}
use Rattle.roll_chain.proofs.rows.counted_marks.Given as goal

abbrev pub invariant-loop-player : goal.invariant-loop-player
invariant-loop-player l =
    (length l.marks ≡ PLAYER_LIMIT) × ((k : ℕ) → k < l.player → get_or l.marks k None ≡ counted_at l.peer k)
