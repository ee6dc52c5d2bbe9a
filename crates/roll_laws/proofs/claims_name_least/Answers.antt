use Rattle.roll_laws.proofs.Rolls.{claims_name_least}
use Rattle.roll_laws.proofs.claims_name_least.Goals as goal

pub returns : goal.returns
returns c = claims_name_least
