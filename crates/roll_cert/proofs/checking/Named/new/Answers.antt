use Rattle.roll_cert.proofs.Noted.{noted_none}
use Rattle.roll_cert.proofs.checking.Named.new.Goals as goal

pub returns : goal.returns
returns c = noted_none
