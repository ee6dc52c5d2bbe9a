use Rattle.roll_match.proofs.Later.{what_ended_stays}
use Rattle.roll_match.proofs.laws.what_ended_stays.Goals as goal

pub returns : goal.returns
returns c = what_ended_stays
