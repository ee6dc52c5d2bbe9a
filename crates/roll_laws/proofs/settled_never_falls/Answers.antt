use Rattle.roll_laws.proofs.KeptPaths.{settled_never_falls}
use Rattle.roll_laws.proofs.settled_never_falls.Goals as goal

pub returns : goal.returns
returns c = settled_never_falls
