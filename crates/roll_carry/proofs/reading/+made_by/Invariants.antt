use Rattle.std.proofs.Common.{length}
use Rattle.roll_carry.proofs.reading.+made_by.Given as goal

abbrev pub decreases-made_by : goal.decreases-made_by
decreases-made_by l = length l.area.now
