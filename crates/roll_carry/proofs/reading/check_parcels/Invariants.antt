use Rattle.std.proofs.Common.{length}
use Rattle.roll_carry.proofs.Areas.{Checking}
use Rattle.roll_carry.proofs.reading.check_parcels.Given as goal

abbrev pub invariant-loop-rest : goal.invariant-loop-rest
invariant-loop-rest l = Checking l.area l.rest

abbrev pub decreases-loop-rest : goal.decreases-loop-rest
decreases-loop-rest l = length l.rest
