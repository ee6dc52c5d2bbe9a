use Rattle.roll_epoch.proofs.EndLaws.{of_one_past_one_end}
use Rattle.roll_epoch.proofs.laws.of_one_past_one_end.Goals as goal

pub returns : goal.returns
returns c = of_one_past_one_end
