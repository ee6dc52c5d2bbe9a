use Rattle.roll_state.proofs.Messages.{all_again as law}
use Rattle.roll_state.proofs.laws.read_again.Goals as goal

pub returns : goal.returns
returns c = law
