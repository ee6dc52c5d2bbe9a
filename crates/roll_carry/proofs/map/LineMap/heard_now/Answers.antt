use Rattle.std.proofs.Common.{false, arith}
use Rattle.roll_carry.specs.Mapping.{is_heard_now}
use Rattle.roll_mesh.proofs.Places.{filled}
use Rattle.roll_carry.proofs.map.LineMap.heard_now.Goals as goal

pub returns : goal.returns
returns c = filled (is_heard_now c.args.self.now c.args.now) c.args.self.now.heard_at c.loop-machine.heard false
    (omega (arith, c.loop-machine.invariant.0)) (λ m h. c.loop-machine.invariant.1 m (omega arith))
