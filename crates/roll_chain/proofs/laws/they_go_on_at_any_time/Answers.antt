use Rattle.roll_chain.proofs.AnyTime.{they_go_on_at_any_time}
use Rattle.roll_chain.proofs.laws.they_go_on_at_any_time.Goals as goal

pub returns : goal.returns
returns c = they_go_on_at_any_time
