use Rattle.std.proofs.Common.{◌≡◌, ℕ, ◌<◌, true}
use Rattle.std.specs.Bool.{beq}
use Rattle.roll_mesh.specs.Machines.{is_in}
use Rattle.roll_carry.proofs.map.same_machines.Given as goal

abbrev pub invariant-loop-machine : goal.invariant-loop-machine
invariant-loop-machine l = (m : ℕ) → m < l.machine → beq (is_in l.one m) (is_in l.other m) ≡ true
