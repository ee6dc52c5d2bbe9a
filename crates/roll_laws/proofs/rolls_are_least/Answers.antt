use Rattle.roll_laws.proofs.Least.{rolls_are_least}
use Rattle.roll_laws.proofs.rolls_are_least.Goals as goal

pub returns : goal.returns
returns c = rolls_are_least
