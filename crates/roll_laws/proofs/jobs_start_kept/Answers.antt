use Rattle.roll_laws.proofs.Jobs.{jobs_start_kept}
use Rattle.roll_laws.proofs.jobs_start_kept.Goals as goal

pub returns : goal.returns
returns c = jobs_start_kept
