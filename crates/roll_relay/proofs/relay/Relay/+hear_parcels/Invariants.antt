use Rattle.std.proofs.Common.{length}
use Rattle.roll_relay.proofs.relay.Relay.+hear_parcels.Given as goal

abbrev pub decreases-hear_parcels : goal.decreases-hear_parcels
decreases-hear_parcels g l = length l.area.now
