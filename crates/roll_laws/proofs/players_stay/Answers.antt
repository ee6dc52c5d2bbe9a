use Rattle.roll_laws.proofs.Bounds.{players_stay}
use Rattle.roll_laws.proofs.players_stay.Goals as goal

pub returns : goal.returns
returns c = players_stay
