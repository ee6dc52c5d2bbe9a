use Rattle.roll_laws.proofs.NewJobs.{jobs_are_new}
use Rattle.roll_laws.proofs.jobs_are_new.Goals as goal

pub returns : goal.returns
returns c = jobs_are_new
