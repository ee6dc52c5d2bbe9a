use Rattle.roll_laws.proofs.Plans.{roll_is_plan}
use Rattle.roll_laws.proofs.roll_is_plan.Goals as goal

pub returns : goal.returns
returns c = roll_is_plan
