use Rattle.roll_epoch.proofs.SeatLaws.{somebody_is_absent}
use Rattle.roll_epoch.proofs.laws.somebody_is_absent.Goals as goal

pub returns : goal.returns
returns c = somebody_is_absent
