use Rattle.std.proofs.Common.{false, arith}
use Rattle.roll_carry.specs.Ways.{is_heard_by}
use Rattle.roll_mesh.proofs.Places.{filled}
use Rattle.roll_carry.proofs.ways.heard_by.Goals as goal

pub returns : goal.returns
returns c = filled (is_heard_by c.args.lines.now c.args.shut.now c.args.to) c.args.shut.now c.loop-machine.heard false
    (omega (arith, c.loop-machine.invariant.0)) (λ m h. c.loop-machine.invariant.1 m (omega arith))
