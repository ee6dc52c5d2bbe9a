use Rattle.std.proofs.Common.{◌≡◌, ℕ, ◌<◌, ◌&&◌, false}
use Rattle.roll_mesh.specs.Machines.{is_in}
use Rattle.roll_carry.proofs.carrier.Carrier.first_owed.Given as goal

abbrev pub invariant-loop-machine : goal.invariant-loop-machine
invariant-loop-machine l = (m : ℕ) → m < l.machine → (is_in l.ready m && is_in l.self.owed m) ≡ false
