use Rattle.std.proofs.Common.{None}
use Rattle.roll_mesh.specs.declared.limits.TheConstants.{PLAYER_LIMIT}
use Rattle.roll_wire.specs.Reading.{byte_at, within_at}
use Rattle.roll_wire.proofs.Loop.{Placing}
use Rattle.roll_wire.proofs.reading.delays_of.Given as goal

abbrev pub invariant-loop-player : goal.invariant-loop-player
invariant-loop-player l = Placing None (within_at byte_at) PLAYER_LIMIT l.places l.player l.delays l.initial.rest l.rest
