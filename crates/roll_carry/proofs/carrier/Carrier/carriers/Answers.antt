use Rattle.std.proofs.Common.{arith}
use Rattle.std.specs.Prelude.{None}
use Rattle.roll_carry.specs.Carrying.{carriers, open_ways, steps_by}
use Rattle.roll_mesh.proofs.Places.{filled}
use Rattle.roll_carry.proofs.carrier.Carrier.carriers.Goals as goal

pub returns : goal.returns
unfolding carriers
returns c = filled (steps_by c.args.self.now c.args.maker c.args.shut.now (open_ways c.args.self.now c.args.maker c.args.shut.now c.args.to) c.args.to) c.args.shut.now c.loop-machine.carriers None
    (omega (arith, c.loop-machine.invariant.0)) (λ m h. c.loop-machine.invariant.1 m (omega arith))
