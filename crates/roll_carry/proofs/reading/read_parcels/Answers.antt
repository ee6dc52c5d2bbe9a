use Rattle.std.proofs.Common.{subst, arith}
use Rattle.roll_wire.specs.Reading.{Gives}
use Rattle.roll_carry.proofs.Areas.{area_few, area_found, area_said}
use Rattle.roll_carry.proofs.Fronts.{area_is, area_says}
use Rattle.roll_carry.proofs.reading.read_parcels.Goals as goal

pub returns-clause-found : goal.returns-clause-found
returns-clause-found c = area_found c.args.text.now (λ area. area.now) c.area_in.result
    (λ i. omega (arith, c.type_inv.text i)) c.area_in.ensures

pub returns-clause-only : goal.returns-clause-only
returns-clause-only c = λ parcels says. subst (λ f. Gives (λ area. area.now) c.area_in.result f)
    (area_said c.args.text.now parcels says) c.area_in.ensures

pub returns-clause-few : goal.returns-clause-few
returns-clause-few c = area_few c.args.text.now (λ area. area.now) c.area_in.result
    (λ i. omega (arith, c.type_inv.text i)) c.area_in.ensures

pub returns-clause-area : goal.returns-clause-area
returns-clause-area c = area_is c.args.text.now (λ area. area.now) c.area_in.result
    (area_found c.args.text.now (λ area. area.now) c.area_in.result (λ i. omega (arith, c.type_inv.text i)) c.area_in.ensures)

pub returns-clause-says : goal.returns-clause-says
returns-clause-says c = area_says c.args.text.now (λ area. area.now) c.area_in.result
    (area_found c.args.text.now (λ area. area.now) c.area_in.result (λ i. omega (arith, c.type_inv.text i)) c.area_in.ensures)
