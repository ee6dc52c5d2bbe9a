use Rattle.roll_laws.proofs.Right.{deeper_differ}
use Rattle.roll_laws.proofs.deeper_differ.Goals as goal

pub returns : goal.returns
returns c = deeper_differ
