use Rattle.std.proofs.Common.{None}
use Rattle.roll_mesh.specs.declared.limits.TheConstants.{PLAYER_LIMIT}
use Rattle.roll_wire.specs.Reading.{marked_at, within_at}
use Rattle.roll_wire.proofs.Loop.{Placing}
use Rattle.roll_wire.proofs.reading.marks_of.Given as goal

abbrev pub invariant-loop-player : goal.invariant-loop-player
invariant-loop-player l = Placing None (within_at marked_at) PLAYER_LIMIT l.places l.player l.marks l.initial.rest l.rest
