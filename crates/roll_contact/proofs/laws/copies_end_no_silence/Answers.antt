use Rattle.roll_contact.proofs.Connections.{copies_end_no_silence as law}
use Rattle.roll_contact.proofs.laws.copies_end_no_silence.Goals as goal

pub returns : goal.returns
returns c = law
