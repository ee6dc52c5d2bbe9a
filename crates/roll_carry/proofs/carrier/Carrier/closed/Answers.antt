use Rattle.std.proofs.Common.{false, arith}
use Rattle.roll_carry.specs.Carrying.{is_closed}
use Rattle.roll_mesh.proofs.Places.{filled}
use Rattle.roll_carry.proofs.carrier.Carrier.closed.Goals as goal

pub returns : goal.returns
returns c = filled (is_closed c.args.self.now c.args.maker c.args.shut.now) c.args.shut.now c.loop-machine.closed false
    (omega (arith, c.loop-machine.invariant.0)) (λ m h. c.loop-machine.invariant.1 m (omega arith))
