use Rattle.roll_laws.proofs.KeptPaths.{rolled_is_time_or_dead}
use Rattle.roll_laws.proofs.rolled_is_time_or_dead.Goals as goal

pub returns : goal.returns
returns c = rolled_is_time_or_dead
