use Rattle.roll_laws.proofs.KeptPaths.{window_is_bounded}
use Rattle.roll_laws.proofs.window_is_bounded.Goals as goal

pub returns : goal.returns
returns c = window_is_bounded
