use Rattle.std.proofs.Common.{◌≡◌}
use Rattle.roll_peer.specs.Turning.{farewell_until}
use Rattle.roll_peer.proofs.peer.Peer.tell_who_is_gone.Given as goal

abbrev pub invariant-loop-machine : goal.invariant-loop-machine
invariant-loop-machine l = l.self ≡ farewell_until l.machine l.fn.self
