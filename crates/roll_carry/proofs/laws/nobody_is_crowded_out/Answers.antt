use Rattle.roll_carry.proofs.Sharing.{nobody_is_crowded_out}
use Rattle.roll_carry.proofs.laws.nobody_is_crowded_out.Goals as goal

pub returns : goal.returns
returns c = nobody_is_crowded_out
