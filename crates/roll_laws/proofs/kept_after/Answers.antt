use Rattle.roll_laws.proofs.Least.{kept_after}
use Rattle.roll_laws.proofs.kept_after.Goals as goal

pub returns : goal.returns
returns c = kept_after
