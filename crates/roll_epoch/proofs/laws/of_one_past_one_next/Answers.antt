use Rattle.roll_epoch.proofs.NextLaws.{of_one_past_one_next}
use Rattle.roll_epoch.proofs.laws.of_one_past_one_next.Goals as goal

pub returns : goal.returns
returns c = of_one_past_one_next
