use Rattle.roll_laws.proofs.Grafted.{new_paths_run}
use Rattle.roll_laws.proofs.new_paths_run.Goals as goal

pub returns : goal.returns
returns c = new_paths_run
