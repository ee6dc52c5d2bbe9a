use Rattle.std.proofs.Common.{◌≡◌, ℕ, ◌<◌, true}
use Rattle.roll_carry.specs.Ways.{hearing_of}
use Rattle.roll_mesh.specs.Machines.{same_gone as same_machines}
use Rattle.roll_carry.proofs.map.same_lines.Given as goal

abbrev pub invariant-loop-machine : goal.invariant-loop-machine
invariant-loop-machine l =
    (m : ℕ) → m < l.machine → same_machines (hearing_of l.one m).hears (hearing_of l.other m).hears ≡ true
