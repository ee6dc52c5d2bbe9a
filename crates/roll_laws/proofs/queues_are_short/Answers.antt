use Rattle.roll_laws.proofs.Bounds.{queues_are_short}
use Rattle.roll_laws.proofs.queues_are_short.Goals as goal

pub returns : goal.returns
returns c = queues_are_short
