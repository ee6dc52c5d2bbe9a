use Rattle.std.proofs.Common.{◌≡◌}
use Rattle.roll_peer.specs.Marks.{end_among}
use Rattle.roll_peer.proofs.peer.Peer.end_among.Given as goal

abbrev pub invariant-loop-player : goal.invariant-loop-player
invariant-loop-player l = l.end ≡ end_among l.self.voids l.marks l.player
