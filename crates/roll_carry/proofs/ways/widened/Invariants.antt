use Rattle.std.proofs.Common.{◌≡◌, ℕ, ◌<◌, length}
use Rattle.roll_carry.specs.Ways.{is_near}
use Rattle.roll_mesh.specs.Machines.{is_in}
use Rattle.roll_mesh.specs.declared.limits.TheConstants.{MACHINE_LIMIT}
use Rattle.roll_carry.proofs.ways.widened.Given as goal

abbrev pub invariant-loop-machine : goal.invariant-loop-machine
invariant-loop-machine l =
    (length l.wider ≡ MACHINE_LIMIT) × ((m : ℕ) → m < l.machine → is_in l.wider m ≡ is_near l.lines l.shut l.set m)
