use Rattle.std.proofs.Common.{◌≡◌}
use Rattle.roll_peer.specs.Turning.{silenced_until}
use Rattle.roll_peer.proofs.peer.Peer.silence.Given as goal

abbrev pub invariant-loop-machine : goal.invariant-loop-machine
invariant-loop-machine l = l.self ≡ silenced_until l.now l.machine l.fn.self
