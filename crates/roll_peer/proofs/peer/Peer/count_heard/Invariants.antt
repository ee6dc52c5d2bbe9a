use Rattle.std.proofs.Common.{◌≡◌, ◌≤◌}
use Rattle.roll_peer.specs.CutOffs.{count_of, is_heard}
use Rattle.roll_peer.proofs.peer.Peer.count_heard.Given as goal

abbrev pub invariant-loop-machine : goal.invariant-loop-machine
invariant-loop-machine l = (l.count ≡ count_of (is_heard l.self l.now) l.machine) × (l.count ≤ l.machine)
