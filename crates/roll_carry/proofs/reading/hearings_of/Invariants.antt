use Rattle.roll_carry.specs.Reading.{hearing_at}
use Rattle.roll_wire.proofs.Lists.{Pushing}
use Rattle.roll_carry.proofs.reading.hearings_of.Given as goal

abbrev pub invariant-loop : goal.invariant-loop
invariant-loop l = Pushing hearing_at l.count l.counter l.map.items l.bytes l.rest
