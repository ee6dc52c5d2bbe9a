use Rattle.roll_laws.proofs.KeptPaths.{start_is_kept}
use Rattle.roll_laws.proofs.start_is_kept.Goals as goal

pub returns : goal.returns
returns c = start_is_kept
