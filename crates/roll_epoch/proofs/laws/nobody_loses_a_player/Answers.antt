use Rattle.roll_epoch.proofs.OwnerLaws.{nobody_loses_a_player}
use Rattle.roll_epoch.proofs.laws.nobody_loses_a_player.Goals as goal

pub returns : goal.returns
returns c = nobody_loses_a_player
