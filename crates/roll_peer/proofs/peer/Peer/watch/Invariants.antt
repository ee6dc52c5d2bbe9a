use Rattle.std.proofs.Common.{◌≡◌}
use Rattle.roll_peer.specs.Turning.{watched_until}
use Rattle.roll_peer.proofs.peer.Peer.watch.Given as goal

abbrev pub invariant-loop-machine : goal.invariant-loop-machine
invariant-loop-machine l = l.self ≡ watched_until l.now l.machine l.fn.self
