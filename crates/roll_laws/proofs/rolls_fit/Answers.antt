use Rattle.roll_laws.proofs.Few.{rolls_fit}
use Rattle.roll_laws.proofs.rolls_fit.Goals as goal

pub returns : goal.returns
returns c = rolls_fit
