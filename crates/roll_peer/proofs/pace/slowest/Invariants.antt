use Rattle.std.proofs.Common.{◌≡◌}
use Rattle.roll_peer.specs.Paces.{slowest}
use Rattle.roll_peer.proofs.pace.slowest.Given as goal

abbrev pub invariant-loop-machine : goal.invariant-loop-machine
invariant-loop-machine l = l.most ≡ slowest l.mesh.machine.gone l.contacts l.machine
