use Rattle.roll_epoch.proofs.EndLaws.{ends_stay}
use Rattle.roll_epoch.proofs.laws.ends_stay.Goals as goal

pub returns : goal.returns
returns c = ends_stay
