use Rattle.std.proofs.Common.{◌≡◌, ◌<◌, ℕ, length, get_or}
use Rattle.roll_mesh.specs.declared.limits.TheConstants.{PLAYER_LIMIT}
use Rattle.roll_epoch.specs.Successions.{kept_owner}
use Rattle.roll_epoch.proofs.owners.kept_owners.Given as goal

abbrev pub invariant-loop-player : goal.invariant-loop-player
invariant-loop-player l =
    (length l.kept ≡ PLAYER_LIMIT) × ((k : ℕ) → k < l.player → get_or l.kept k 0 ≡ kept_owner l.owners l.left l.end k)
