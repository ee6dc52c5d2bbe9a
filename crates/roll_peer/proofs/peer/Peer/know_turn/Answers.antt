use Rattle.std.proofs.Common.{refl}
use Rattle.roll_peer.proofs.peer.Peer.know_turn.Goals as goal

pub returns : goal.returns
returns c =
    rw (c.compare.ensures, ← c.self.view_is, c.heard.ensures, c.after_words-contact.ensures, c.from-place.ensures) refl
