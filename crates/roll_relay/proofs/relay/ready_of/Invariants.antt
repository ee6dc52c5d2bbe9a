use Rattle.std.proofs.Common.{◌≡◌, ℕ, ◌<◌, length, get_or, false}
use Rattle.roll_peer.specs.Sending.{can_carry}
use Rattle.roll_mesh.specs.declared.limits.TheConstants.{MACHINE_LIMIT}
use Rattle.roll_relay.proofs.relay.ready_of.Given as goal

abbrev pub invariant-loop-machine : goal.invariant-loop-machine
invariant-loop-machine l =
    (length l.ready ≡ MACHINE_LIMIT) × ((m : ℕ) → m < l.machine → get_or l.ready m false ≡ can_carry l.peer m)
