use Rattle.std.proofs.Common.{◌≡◌, ℕ, ◌<◌, length, get_or}
use Rattle.roll_mesh.specs.declared.limits.TheConstants.{PLAYER_LIMIT}
use Rattle.std.proofs.Common.{None}
use Rattle.roll_chain.specs.Rows.{left_in}
use Rattle.roll_chain.proofs.rows.lefts.Given as goal

abbrev pub invariant-loop-player : goal.invariant-loop-player
invariant-loop-player l =
    (length l.lefts ≡ PLAYER_LIMIT) × ((k : ℕ) → k < l.player → get_or l.lefts k None ≡ left_in l.mesh k)
