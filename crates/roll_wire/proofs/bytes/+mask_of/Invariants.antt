use Rattle.std.proofs.Common.{length}
use Rattle.roll_wire.proofs.bytes.+mask_of.Given as goal

abbrev pub decreases-mask_of : goal.decreases-mask_of
decreases-mask_of l = length l.places.now
