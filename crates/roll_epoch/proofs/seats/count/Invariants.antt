use Rattle.std.proofs.Common.{◌≡◌, ◌≤◌}
use Rattle.roll_mesh.specs.declared.limits.TheConstants.{MACHINE_LIMIT}
use Rattle.roll_epoch.specs.Seats.{machines_to}
use Rattle.roll_epoch.proofs.seats.count.Given as goal

abbrev pub invariant-loop-player : goal.invariant-loop-player
invariant-loop-player l = (l.machines ≡ machines_to l.owners l.player) × (l.machines ≤ MACHINE_LIMIT)
