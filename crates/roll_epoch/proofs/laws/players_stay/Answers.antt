use Rattle.roll_epoch.proofs.OwnerLaws.{players_stay}
use Rattle.roll_epoch.proofs.laws.players_stay.Goals as goal

pub returns : goal.returns
returns c = players_stay
