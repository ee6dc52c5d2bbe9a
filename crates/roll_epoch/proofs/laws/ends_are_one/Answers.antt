use Rattle.roll_epoch.proofs.EndLaws.{ends_are_one}
use Rattle.roll_epoch.proofs.laws.ends_are_one.Goals as goal

pub returns : goal.returns
returns c = ends_are_one
