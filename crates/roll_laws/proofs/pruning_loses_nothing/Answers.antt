use Rattle.roll_laws.proofs.Least.{pruning_loses_nothing}
use Rattle.roll_laws.proofs.pruning_loses_nothing.Goals as goal

pub returns : goal.returns
returns c = pruning_loses_nothing
