use Rattle.roll_peer.proofs.Alike.{two_peers_know_one}
use Rattle.roll_peer.proofs.laws.two_peers_know_one.Goals as goal

pub returns : goal.returns
returns c = two_peers_know_one
