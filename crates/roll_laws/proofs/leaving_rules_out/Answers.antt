use Rattle.roll_laws.proofs.Ruled.{leaving_rules_out}
use Rattle.roll_laws.proofs.leaving_rules_out.Goals as goal

pub returns : goal.returns
returns c = leaving_rules_out
