use Rattle.std.proofs.Common.{◌≡◌, ℕ, ◌<◌, false}
use Rattle.roll_peer.specs.CutOffs.{is_here}
use Rattle.roll_peer.proofs.peer.Peer.lowest_here.Given as goal

abbrev pub invariant-loop-machine : goal.invariant-loop-machine
invariant-loop-machine l = (m : ℕ) → m < l.machine → is_here l.self m ≡ false
