use Rattle.std.proofs.Common.{◌≡◌, ℕ, ◌<◌, length, get_or}
use Rattle.roll_carry.specs.Mapping.{line_after}
use Rattle.roll_carry.specs.Ways.{deaf}
use Rattle.roll_mesh.specs.declared.limits.TheConstants.{MACHINE_LIMIT}
use Rattle.roll_carry.proofs.map.LineMap.lines_after.Given as goal

abbrev pub invariant-loop-machine : goal.invariant-loop-machine
invariant-loop-machine l =
    (length l.lines ≡ MACHINE_LIMIT) × ((m : ℕ) → m < l.machine → get_or l.lines m deaf ≡ line_after l.self l.told m)
