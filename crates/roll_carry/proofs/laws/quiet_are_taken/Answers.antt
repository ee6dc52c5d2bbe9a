use Rattle.roll_carry.proofs.Sharing.{quiet_are_taken}
use Rattle.roll_carry.proofs.laws.quiet_are_taken.Goals as goal

pub returns : goal.returns
returns c = quiet_are_taken
