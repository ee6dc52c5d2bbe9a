use Rattle.roll_laws.proofs.Bounds.{kept_are_short}
use Rattle.roll_laws.proofs.kept_are_short.Goals as goal

pub returns : goal.returns
returns c = kept_are_short
