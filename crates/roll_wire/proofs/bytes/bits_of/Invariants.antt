use Rattle.roll_wire.proofs.Loop.{Halving}
use Rattle.roll_wire.proofs.bytes.bits_of.Given as goal

abbrev pub invariant-loop-place : goal.invariant-loop-place
invariant-loop-place l = Halving 8 l.place l.bits l.mask l.left
