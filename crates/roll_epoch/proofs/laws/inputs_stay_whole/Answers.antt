use Rattle.roll_epoch.proofs.OwnerLaws.{inputs_stay_whole}
use Rattle.roll_epoch.proofs.laws.inputs_stay_whole.Goals as goal

pub returns : goal.returns
returns c = inputs_stay_whole
