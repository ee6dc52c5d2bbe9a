use Rattle.roll_contact.proofs.Connections.{keys_differ as law}
use Rattle.roll_contact.proofs.laws.keys_differ.Goals as goal

pub returns : goal.returns
returns c = law
