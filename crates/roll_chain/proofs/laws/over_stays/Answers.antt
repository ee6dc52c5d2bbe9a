use Rattle.roll_chain.proofs.Lasting.{over_stays}
use Rattle.roll_chain.proofs.laws.over_stays.Goals as goal

pub returns : goal.returns
returns c = over_stays
