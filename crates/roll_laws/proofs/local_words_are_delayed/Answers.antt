use Rattle.roll_laws.proofs.Delayed.{local_words_are_delayed}
use Rattle.roll_laws.proofs.local_words_are_delayed.Goals as goal

pub returns : goal.returns
returns c = local_words_are_delayed
