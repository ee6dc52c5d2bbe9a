use Rattle.roll_laws.proofs.Least.{settled_after}
use Rattle.roll_laws.proofs.settled_after.Goals as goal

pub returns : goal.returns
returns c = settled_after
