use Rattle.std.proofs.Common.{◌≡◌, ℕ, ◌<◌, length, get_or, false}
use Rattle.roll_carry.specs.Mapping.{is_heard_now}
use Rattle.roll_mesh.specs.declared.limits.TheConstants.{MACHINE_LIMIT}
use Rattle.roll_carry.proofs.map.LineMap.heard_now.Given as goal

abbrev pub invariant-loop-machine : goal.invariant-loop-machine
invariant-loop-machine l =
    (length l.heard ≡ MACHINE_LIMIT) × ((m : ℕ) → m < l.machine → get_or l.heard m false ≡ is_heard_now l.self l.now m)
