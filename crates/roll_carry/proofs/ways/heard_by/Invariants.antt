use Rattle.std.proofs.Common.{◌≡◌, ℕ, ◌<◌, length}
use Rattle.roll_carry.specs.Ways.{is_heard_by}
use Rattle.roll_mesh.specs.Machines.{is_in}
use Rattle.roll_mesh.specs.declared.limits.TheConstants.{MACHINE_LIMIT}
use Rattle.roll_carry.proofs.ways.heard_by.Given as goal

abbrev pub invariant-loop-machine : goal.invariant-loop-machine
invariant-loop-machine l =
    (length l.heard ≡ MACHINE_LIMIT) × ((m : ℕ) → m < l.machine → is_in l.heard m ≡ is_heard_by l.lines l.shut l.to m)
