use Rattle.roll_laws.proofs.Worth.{accepted_are_worth}
use Rattle.roll_laws.proofs.accepted_are_worth.Goals as goal

pub returns : goal.returns
returns c = accepted_are_worth
