use Rattle.roll_laws.proofs.Logs.{guessed_cells}
use Rattle.roll_laws.proofs.guessed_cells.Goals as goal

pub returns : goal.returns
returns c = guessed_cells
