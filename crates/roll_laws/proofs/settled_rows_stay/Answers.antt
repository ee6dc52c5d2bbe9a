use Rattle.roll_laws.proofs.KeptPaths.{settled_rows_stay}
use Rattle.roll_laws.proofs.settled_rows_stay.Goals as goal

pub returns : goal.returns
returns c = settled_rows_stay
