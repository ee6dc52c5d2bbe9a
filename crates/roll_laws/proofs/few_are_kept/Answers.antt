use Rattle.roll_laws.proofs.Few.{few_are_kept}
use Rattle.roll_laws.proofs.few_are_kept.Goals as goal

pub returns : goal.returns
returns c = few_are_kept
