use Rattle.roll_peer.proofs.Naming.{events_name_machines as law}
use Rattle.roll_peer.proofs.laws.events_name_machines.Goals as goal

pub returns : goal.returns
returns c = law
