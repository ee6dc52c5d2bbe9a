use Rattle.std.proofs.Common.{◌≡◌, ◌<◌, ℕ, length, get_or}
use Rattle.roll_mesh.specs.declared.limits.TheConstants.{PLAYER_LIMIT}
use Rattle.roll_epoch.specs.Ends.{owner_of}
use Rattle.roll_epoch.specs.Seats.{owner_or_absent}
use Rattle.roll_epoch.proofs.terms.Terms.owners_with_absent.Given as goal

abbrev pub invariant-loop-player : goal.invariant-loop-player
invariant-loop-player l =
    (length l.owners ≡ PLAYER_LIMIT) × ((k : ℕ) → k < l.player → get_or l.owners k 0 ≡ owner_or_absent l.absent (owner_of l.self.owners k))
