use Rattle.std.proofs.Common.{arith}
use Rattle.roll_carry.specs.Mapping.{line_after}
use Rattle.roll_carry.specs.Ways.{deaf}
use Rattle.roll_mesh.proofs.Places.{filled}
use Rattle.roll_carry.proofs.map.LineMap.lines_after.Goals as goal

pub returns : goal.returns
returns c = filled (line_after c.args.self.now c.args.told.now) c.args.self.now.lines c.loop-machine.lines deaf
    (omega (arith, c.loop-machine.invariant.0)) (λ m h. c.loop-machine.invariant.1 m (omega arith))
