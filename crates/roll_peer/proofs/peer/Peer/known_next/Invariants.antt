use Rattle.std.proofs.Common.{◌≡◌, ℕ, ◌<◌, length, get_or, false}
use Rattle.roll_mesh.specs.Machines.{is_in}
use Rattle.roll_mesh.specs.declared.limits.TheConstants.{MACHINE_LIMIT}
use Rattle.roll_peer.specs.Following.{is_out, seating_at}
use Rattle.roll_peer.proofs.peer.Peer.known_next.Given as goal

abbrev pub invariant-loop-machine : goal.invariant-loop-machine
invariant-loop-machine l =
    (length l.known ≡ MACHINE_LIMIT)
    × ((m : ℕ) → m < l.machine → get_or l.known m false ≡ is_out (seating_at l.seating m) (is_in l.self.known_gone m))
