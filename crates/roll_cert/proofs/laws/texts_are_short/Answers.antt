use Rattle.roll_cert.proofs.Short.{texts-short}
use Rattle.roll_cert.proofs.laws.texts_are_short.Goals as goal

pub returns : goal.returns
returns c = texts-short
