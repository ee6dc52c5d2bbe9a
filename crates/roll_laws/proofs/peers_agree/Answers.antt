use Rattle.roll_laws.proofs.Peers.{peers_agree}
use Rattle.roll_laws.proofs.peers_agree.Goals as goal

pub returns : goal.returns
returns c = peers_agree
