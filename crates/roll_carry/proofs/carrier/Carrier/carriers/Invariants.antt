use Rattle.std.proofs.Common.{◌≡◌, ℕ, ◌<◌, length, get_or}
use Rattle.std.specs.Prelude.{None}
use Rattle.roll_carry.specs.Carrying.{open_ways, steps_by}
use Rattle.roll_mesh.specs.declared.limits.TheConstants.{MACHINE_LIMIT}
use Rattle.roll_carry.proofs.carrier.Carrier.carriers.Given as goal

abbrev pub invariant-loop-machine : goal.invariant-loop-machine
invariant-loop-machine l =
    (length l.carriers ≡ MACHINE_LIMIT)
    × ((m : ℕ) → m < l.machine → get_or l.carriers m None ≡ steps_by l.self l.maker l.shut (open_ways l.self l.maker l.shut l.to) l.to m)
