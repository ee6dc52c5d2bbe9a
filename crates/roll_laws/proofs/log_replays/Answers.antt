use Rattle.roll_laws.proofs.Logs.{log_replays}
use Rattle.roll_laws.proofs.log_replays.Goals as goal

pub returns : goal.returns
returns c = log_replays
