use Rattle.std.proofs.Common.{false, arith}
use Rattle.roll_carry.specs.Ways.{is_near}
use Rattle.roll_mesh.proofs.Places.{filled}
use Rattle.roll_carry.proofs.ways.widened.Goals as goal

pub returns : goal.returns
returns c = filled (is_near c.args.lines.now c.args.shut.now c.args.set.now) c.args.set.now c.loop-machine.wider false
    (omega (arith, c.loop-machine.invariant.0)) (λ m h. c.loop-machine.invariant.1 m (omega arith))
