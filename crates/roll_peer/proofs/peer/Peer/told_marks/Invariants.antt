use Rattle.std.proofs.Common.{◌≡◌, ℕ, ◌<◌, length, get_or, None}
use Rattle.roll_mesh.specs.declared.limits.TheConstants.{PLAYER_LIMIT}
use Rattle.roll_peer.specs.Marks.{told_mark}
use Rattle.roll_peer.proofs.peer.Peer.told_marks.Given as goal

abbrev pub invariant-loop-player : goal.invariant-loop-player
invariant-loop-player l =
    (length l.marks ≡ PLAYER_LIMIT)
    × ((p : ℕ) → p < l.player → get_or l.marks p None ≡ told_mark l.offers l.self.member.mesh.machine.has l.self.marks p)
