use Rattle.std.proofs.Common.{◌≡◌, ℕ, ◌<◌, ◌≤◌, length, get_or, None}
use Rattle.roll_mesh.specs.declared.limits.TheConstants.{MACHINE_LIMIT}
use Rattle.roll_peer.specs.Following.{dispute_next, seating_at}
use Rattle.roll_peer.specs.Disputes.{dispute_at}
use Rattle.roll_peer.proofs.peer.Peer.disputes_next.Given as goal

abbrev pub invariant-loop-machine : goal.invariant-loop-machine
invariant-loop-machine l =
    (length l.disputes ≡ MACHINE_LIMIT)
    × ((m : ℕ) → m < l.machine → get_or l.disputes m None ≡ dispute_next (seating_at l.seating m) (dispute_at l.self m))
    × ((m : ℕ) → l.machine ≤ m → get_or l.disputes m None ≡ None)
