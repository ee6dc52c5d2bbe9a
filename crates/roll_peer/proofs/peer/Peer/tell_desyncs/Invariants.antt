use Rattle.std.proofs.Common.{◌≡◌}
use Rattle.roll_peer.specs.Turning.{desync_until}
use Rattle.roll_peer.proofs.peer.Peer.tell_desyncs.Given as goal

abbrev pub invariant-loop-machine : goal.invariant-loop-machine
invariant-loop-machine l = l.self ≡ desync_until l.now l.machine l.fn.self
