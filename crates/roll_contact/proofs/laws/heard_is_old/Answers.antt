use Rattle.roll_contact.proofs.Newer.{heard_is_old as law}
use Rattle.roll_contact.proofs.laws.heard_is_old.Goals as goal

pub returns : goal.returns
returns c = law
