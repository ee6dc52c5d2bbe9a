use Rattle.roll_mesh.proofs.HoldingUp.{waiters_hold_up_nobody as law}
use Rattle.roll_mesh.proofs.laws.waiters_hold_up_nobody.Goals as goal

pub returns : goal.returns
returns c = law
