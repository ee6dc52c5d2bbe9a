use Rattle.std.proofs.Common.{◌≡◌}
use Rattle.roll_peer.specs.Turning.{missed_until}
use Rattle.roll_peer.proofs.peer.Peer.miss.Given as goal

abbrev pub invariant-loop-machine : goal.invariant-loop-machine
invariant-loop-machine l = l.self ≡ missed_until l.now l.machine l.fn.self
