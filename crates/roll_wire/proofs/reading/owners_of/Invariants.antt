use Rattle.roll_mesh.specs.declared.limits.TheConstants.{PLAYER_LIMIT}
use Rattle.roll_wire.specs.Reading.{byte_at}
use Rattle.roll_wire.proofs.Loop.{Filling}
use Rattle.roll_wire.proofs.reading.owners_of.Given as goal

abbrev pub invariant-loop-player : goal.invariant-loop-player
invariant-loop-player l = Filling byte_at PLAYER_LIMIT l.player l.owners l.bytes l.rest
