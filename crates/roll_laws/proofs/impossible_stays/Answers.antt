use Rattle.roll_laws.proofs.KeptPaths.{impossible_stays}
use Rattle.roll_laws.proofs.impossible_stays.Goals as goal

pub returns : goal.returns
returns c = impossible_stays
