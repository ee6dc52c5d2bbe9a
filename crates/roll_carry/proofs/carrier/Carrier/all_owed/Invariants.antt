use Rattle.std.proofs.Common.{◌≡◌, ℕ, ◌<◌, length, get_or, false}
use Rattle.roll_carry.specs.Carrying.{is_owed}
use Rattle.roll_mesh.specs.declared.limits.TheConstants.{MACHINE_LIMIT}
use Rattle.roll_carry.proofs.carrier.Carrier.all_owed.Given as goal

abbrev pub invariant-loop-machine : goal.invariant-loop-machine
invariant-loop-machine l =
    (length l.owed ≡ MACHINE_LIMIT)
    × ((m : ℕ) → m < l.machine → get_or l.owed m false ≡ is_owed l.self.map l.self.turns m)
