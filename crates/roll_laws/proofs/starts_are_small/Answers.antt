use Rattle.roll_laws.proofs.Starts.{starts_are_small}
use Rattle.roll_laws.proofs.starts_are_small.Goals as goal

pub returns : goal.returns
returns c = starts_are_small
