use Rattle.std.proofs.Common.{◌≡◌, ℕ, ◌<◌, length, get_or}
use Rattle.std.specs.Prelude.{None}
use Rattle.roll_carry.specs.Mapping.{heard_lately}
use Rattle.roll_mesh.specs.declared.limits.TheConstants.{MACHINE_LIMIT}
use Rattle.roll_carry.proofs.map.LineMap.all_heard_lately.Given as goal

abbrev pub invariant-loop-machine : goal.invariant-loop-machine
invariant-loop-machine l =
    (length l.heard_at ≡ MACHINE_LIMIT) × ((m : ℕ) → m < l.machine → get_or l.heard_at m None ≡ heard_lately l.self l.now m)
