use Rattle.roll_state.proofs.Messages.{one_spelling as law}
use Rattle.roll_state.proofs.laws.one_text.Goals as goal

pub returns : goal.returns
returns c = law
