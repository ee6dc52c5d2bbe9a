use Rattle.roll_laws.proofs.Bounds.{log_ends}
use Rattle.roll_laws.proofs.log_ends.Goals as goal

pub returns : goal.returns
returns c = log_ends
