use Rattle.roll_chain.proofs.LaterOn.{it_is_later}
use Rattle.roll_chain.proofs.laws.it_is_later.Goals as goal

pub returns : goal.returns
returns c = it_is_later
