use Rattle.roll_laws.proofs.Rolls.{claims_are_right}
use Rattle.roll_laws.proofs.claims_are_right.Goals as goal

pub returns : goal.returns
returns c = claims_are_right
