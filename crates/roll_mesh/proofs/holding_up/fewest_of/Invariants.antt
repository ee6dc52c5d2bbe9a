use Rattle.std.proofs.Common.{◌≡◌}
use Rattle.roll_mesh.specs.HoldingUp.{fewest_of}
use Rattle.roll_mesh.proofs.holding_up.fewest_of.Given as goal

abbrev pub invariant-loop-player : goal.invariant-loop-player
invariant-loop-player l = l.fewest ≡ fewest_of l.seat l.here l.machine l.player
