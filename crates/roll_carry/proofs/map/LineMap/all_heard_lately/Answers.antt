use Rattle.std.proofs.Common.{arith}
use Rattle.std.specs.Prelude.{None}
use Rattle.roll_carry.specs.Mapping.{heard_lately}
use Rattle.roll_mesh.proofs.Places.{filled}
use Rattle.roll_carry.proofs.map.LineMap.all_heard_lately.Goals as goal

pub returns : goal.returns
returns c = filled (heard_lately c.args.self.now c.args.now) c.args.self.now.heard_at c.loop-machine.heard_at None
    (omega (arith, c.loop-machine.invariant.0)) (λ m h. c.loop-machine.invariant.1 m (omega arith))
