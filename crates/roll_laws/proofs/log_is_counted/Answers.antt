use Rattle.roll_laws.proofs.Logs.{log_is_counted}
use Rattle.roll_laws.proofs.log_is_counted.Goals as goal

pub returns : goal.returns
returns c = log_is_counted
