use Rattle.std.proofs.Common.{subst, arith}
use Rattle.roll_wire.specs.Reading.{Gives}
use Rattle.roll_carry.proofs.Texts.{map_again, map_found}
use Rattle.roll_carry.proofs.reading.read_map.Goals as goal

pub returns-clause-found : goal.returns-clause-found
returns-clause-found c = map_found c.args.text.now (λ map. map.items) c.map_in.result
    (λ i. omega (arith, c.type_inv.text i)) c.map_in.ensures

pub returns-clause-only : goal.returns-clause-only
returns-clause-only c = λ map says. subst (λ f. Gives (λ read. read.items) c.map_in.result f)
    (map_again c.args.text.now map says) c.map_in.ensures
