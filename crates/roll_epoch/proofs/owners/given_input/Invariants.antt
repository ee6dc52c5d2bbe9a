use Rattle.std.proofs.Common.{◌≡◌, ◌<◌, ℕ, length, get_or}
use Rattle.roll_mesh.specs.declared.limits.TheConstants.{PLAYER_LIMIT}
use Rattle.roll_epoch.specs.Successions.{owner_with}
use Rattle.roll_epoch.proofs.owners.given_input.Given as goal

abbrev pub invariant-loop-player : goal.invariant-loop-player
invariant-loop-player l =
    (length l.others ≡ PLAYER_LIMIT) × ((k : ℕ) → k < l.player → get_or l.others k 0 ≡ owner_with l.seat l.words l.owners l.place k)
