use Rattle.roll_peer.proofs.Believed.{nothing_else_is_heard as law}
use Rattle.roll_peer.proofs.laws.nothing_else_is_heard.Goals as goal

pub returns : goal.returns
returns c = law
