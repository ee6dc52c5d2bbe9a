use Rattle.std.proofs.Common.{◌≡◌, ℕ, ◌<◌, length, get_or, false}
use Rattle.roll_relay.specs.Relaying.{is_shut}
use Rattle.roll_mesh.specs.declared.limits.TheConstants.{MACHINE_LIMIT}
use Rattle.roll_relay.proofs.relay.shut_of.Given as goal

abbrev pub invariant-loop-machine : goal.invariant-loop-machine
invariant-loop-machine l =
    (length l.shut ≡ MACHINE_LIMIT) × ((m : ℕ) → m < l.machine → get_or l.shut m false ≡ is_shut l.peer m)
