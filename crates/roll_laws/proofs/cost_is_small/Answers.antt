use Rattle.roll_laws.proofs.KeptPaths.{cost_is_small}
use Rattle.roll_laws.proofs.cost_is_small.Goals as goal

pub returns : goal.returns
returns c = cost_is_small
