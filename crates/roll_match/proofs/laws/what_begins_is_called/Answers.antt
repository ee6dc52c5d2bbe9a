use Rattle.roll_match.proofs.Begun.{what_begins_is_called}
use Rattle.roll_match.proofs.laws.what_begins_is_called.Goals as goal

pub returns : goal.returns
returns g c = what_begins_is_called g.row.S-Past.Denot
