use Rattle.roll_match.proofs.Deeds.{what_is_sent_is_called}
use Rattle.roll_match.proofs.laws.what_is_sent_is_called.Goals as goal

pub returns : goal.returns
returns c = what_is_sent_is_called
