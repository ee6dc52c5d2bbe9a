use Rattle.roll_peer.proofs.Alike.{two_peers_one_match}
use Rattle.roll_peer.proofs.laws.two_peers_one_match.Goals as goal

pub returns : goal.returns
returns c = two_peers_one_match
