use Rattle.std.specs.Int.{w32}
use Rattle.roll_wire.specs.Reading.{number_at}
use Rattle.roll_wire.proofs.Lists.{Pushing}
use Rattle.roll_state.proofs.reading.places_of.Given as goal

abbrev pub invariant-loop : goal.invariant-loop
invariant-loop l = Pushing (number_at w32) l.count l.counter l.places.items l.bytes l.rest
