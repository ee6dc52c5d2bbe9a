use Rattle.roll_laws.proofs.Ordered.{order_keeps_all}
use Rattle.roll_laws.proofs.order_keeps_all.Goals as goal

pub returns : goal.returns
returns c = order_keeps_all
