use Rattle.std.proofs.Common.{◌≡◌}
use Rattle.roll_mesh.specs.HoldingUp.{most_of}
use Rattle.roll_mesh.proofs.holding_up.most_of.Given as goal

abbrev pub invariant-loop-player : goal.invariant-loop-player
invariant-loop-player l = l.most ≡ most_of l.seat l.has l.machine l.player
