use Rattle.std.proofs.Common.{◌≡◌, ℕ, ◌<◌, length, get_or, false}
use Rattle.roll_carry.specs.Carrying.{is_closed}
use Rattle.roll_mesh.specs.declared.limits.TheConstants.{MACHINE_LIMIT}
use Rattle.roll_carry.proofs.carrier.Carrier.closed.Given as goal

abbrev pub invariant-loop-machine : goal.invariant-loop-machine
invariant-loop-machine l =
    (length l.closed ≡ MACHINE_LIMIT) × ((m : ℕ) → m < l.machine → get_or l.closed m false ≡ is_closed l.self l.maker l.shut m)
