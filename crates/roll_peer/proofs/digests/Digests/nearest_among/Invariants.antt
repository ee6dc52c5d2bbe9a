use Rattle.std.proofs.Common.{◌≡◌}
use Rattle.roll_peer.specs.Digests.{nearest_among}
use Rattle.roll_peer.proofs.digests.Digests.nearest_among.Given as goal

abbrev pub invariant-loop-place : goal.invariant-loop-place
invariant-loop-place l = l.nearest ≡ nearest_among l.self l.from l.to l.place
