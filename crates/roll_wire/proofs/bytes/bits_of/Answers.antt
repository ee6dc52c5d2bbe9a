use Rattle.std.proofs.Common.{refl}
use Rattle.roll_wire.proofs.Loop.{bits_start, bits_go_on, bits_done}
use Rattle.roll_wire.proofs.bytes.bits_of.Goals as goal

pub loop-place-init : goal.loop-place-init
loop-place-init c = bits_start 8 _ c.args.mask refl

pub loop-place-preserved : goal.loop-place-preserved
loop-place-preserved c =
    bits_go_on 8 c.loop-place.place c.loop-place.bits c.args.mask c.loop-place.left
    c.loop-place-test.true c.loop-place.invariant

pub returns : goal.returns
returns c = bits_done 8 c.loop-place.place c.loop-place.bits c.args.mask c.loop-place.left
    c.loop-place-test.false c.loop-place.invariant
