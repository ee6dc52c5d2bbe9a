use Rattle.roll_contact.proofs.Connections.{only_an_echo_is_believed as law}
use Rattle.roll_contact.proofs.laws.only_an_echo_is_believed.Goals as goal

pub returns : goal.returns
returns c = law
