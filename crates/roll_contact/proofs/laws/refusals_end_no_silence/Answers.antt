use Rattle.roll_contact.proofs.Connections.{refusals_end_no_silence as law}
use Rattle.roll_contact.proofs.laws.refusals_end_no_silence.Goals as goal

pub returns : goal.returns
returns c = law
