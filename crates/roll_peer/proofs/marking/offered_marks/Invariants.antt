use Rattle.std.proofs.Common.{◌≡◌, ℕ, ◌<◌, length, get_or, None}
use Rattle.roll_mesh.specs.declared.limits.TheConstants.{PLAYER_LIMIT}
use Rattle.roll_peer.specs.Marks.{offered_at}
use Rattle.roll_peer.proofs.marking.offered_marks.Given as goal

abbrev pub invariant-loop-player : goal.invariant-loop-player
invariant-loop-player l =
    (length l.offered ≡ PLAYER_LIMIT) × ((p : ℕ) → p < l.player → get_or l.offered p None ≡ offered_at l.offers l.marks p)
