use Rattle.roll_peer.proofs.Openings.{what_opened_stays}
use Rattle.roll_peer.proofs.laws.what_opened_stays.Goals as goal

pub returns : goal.returns
returns c = what_opened_stays
