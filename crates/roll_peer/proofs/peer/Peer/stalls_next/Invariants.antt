use Rattle.std.proofs.Common.{◌≡◌, ℕ, ◌<◌, ◌≤◌, length, get_or}
use Rattle.roll_mesh.specs.declared.limits.TheConstants.{MACHINE_LIMIT}
use Rattle.roll_peer.specs.Following.{seating_at, stall_next}
use Rattle.roll_peer.specs.Stalls.{first_stall}
use Rattle.roll_peer.specs.Turning.{has_begun}
use Rattle.roll_peer.proofs.peer.Peer.stalls_next.Given as goal

abbrev pub invariant-loop-machine : goal.invariant-loop-machine
invariant-loop-machine l =
    (length l.stalls ≡ MACHINE_LIMIT)
    × ((m : ℕ) → m < l.machine → get_or l.stalls m first_stall ≡ stall_next (seating_at l.seating m) (has_begun l.self m))
    × ((m : ℕ) → l.machine ≤ m → get_or l.stalls m first_stall ≡ first_stall)
