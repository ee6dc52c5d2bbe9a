use Rattle.roll_carry.proofs.Sharing.{shares_are_kept}
use Rattle.roll_carry.proofs.laws.shares_are_kept.Goals as goal

pub returns : goal.returns
returns c = shares_are_kept
