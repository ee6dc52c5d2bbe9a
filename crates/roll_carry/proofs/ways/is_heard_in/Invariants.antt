use Rattle.std.proofs.Common.{◌≡◌, ℕ, ◌<◌, ◌&&◌, false}
use Rattle.roll_carry.specs.Ways.{hears}
use Rattle.roll_mesh.specs.Machines.{is_in}
use Rattle.roll_carry.proofs.ways.is_heard_in.Given as goal

abbrev pub invariant-loop-other : goal.invariant-loop-other
invariant-loop-other l = (m : ℕ) → m < l.other → (is_in l.set m && hears l.lines m l.machine) ≡ false
