use Rattle.roll_match.proofs.Later.{what_is_known_stays}
use Rattle.roll_match.proofs.laws.what_is_known_stays.Goals as goal

pub returns : goal.returns
returns c = what_is_known_stays
