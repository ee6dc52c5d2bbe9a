use Rattle.roll_laws.proofs.KeptPaths.{kept_begin_settled}
use Rattle.roll_laws.proofs.kept_begin_settled.Goals as goal

pub returns : goal.returns
returns c = kept_begin_settled
