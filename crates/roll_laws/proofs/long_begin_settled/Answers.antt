use Rattle.roll_laws.proofs.Ruled.{long_begin_settled}
use Rattle.roll_laws.proofs.long_begin_settled.Goals as goal

pub returns : goal.returns
returns c = long_begin_settled
