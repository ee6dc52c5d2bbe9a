use Rattle.roll_laws.proofs.KeptPaths.{kept_are_prefixed}
use Rattle.roll_laws.proofs.kept_are_prefixed.Goals as goal

pub returns : goal.returns
returns c = kept_are_prefixed
