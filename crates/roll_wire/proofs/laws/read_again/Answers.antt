use Rattle.roll_wire.proofs.Messages.{all_again}
use Rattle.roll_wire.proofs.laws.read_again.Goals as goal

pub returns : goal.returns
returns c = all_again
