use Rattle.roll_laws.proofs.KeptPaths.{prefixes_are_saved}
use Rattle.roll_laws.proofs.prefixes_are_saved.Goals as goal

pub returns : goal.returns
returns c = prefixes_are_saved
