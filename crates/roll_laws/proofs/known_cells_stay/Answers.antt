use Rattle.roll_laws.proofs.KeptPaths.{known_cells_stay}
use Rattle.roll_laws.proofs.known_cells_stay.Goals as goal

pub returns : goal.returns
returns c = known_cells_stay
