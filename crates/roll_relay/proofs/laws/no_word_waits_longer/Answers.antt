use Rattle.roll_relay.proofs.Passing.{no_word_waits_longer}
use Rattle.roll_relay.proofs.laws.no_word_waits_longer.Goals as goal

pub returns : goal.returns
returns c = no_word_waits_longer
