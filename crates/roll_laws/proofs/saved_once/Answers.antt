use Rattle.roll_laws.proofs.Few.{saved_once}
use Rattle.roll_laws.proofs.saved_once.Goals as goal

pub returns : goal.returns
returns c = saved_once
