use Rattle.std.proofs.Common.{arith}
use Rattle.roll_carry.specs.Spelling.{parcel_value}
use Rattle.roll_carry.proofs.Areas.{first_found, first_len, first_only}
use Rattle.roll_carry.proofs.Fronts.{first_next, first_none}
use Rattle.roll_carry.proofs.reading.first_parcel.Goals as goal

pub returns-clause-found : goal.returns-clause-found
returns-clause-found c =
    rw c.ok.ensures.value
    (first_found c.args.area.now (λ x. (parcel_value x.0, x.1.now)) c.parcel_of.result
    (λ i. omega (arith, c.type_inv.area i)) c.requires c.parcel_of.ensures)

pub returns-clause-len : goal.returns-clause-len
returns-clause-len c =
    rw c.ok.ensures.value
    (first_len c.args.area.now (λ x. (parcel_value x.0, x.1.now)) c.parcel_of.result
    (λ i. omega (arith, c.type_inv.area i)) c.parcel_of.ensures)

pub returns-clause-only : goal.returns-clause-only
returns-clause-only c = λ parcels f e.
    rw c.ok.ensures.value
    (first_only c.args.area.now (λ x. (parcel_value x.0, x.1.now)) c.parcel_of.result parcels
    c.parcel_of.ensures f e)

pub returns-clause-next : goal.returns-clause-next
returns-clause-next c =
    rw c.ok.ensures.value
    (first_next c.args.area.now (λ x. (parcel_value x.0, x.1.now)) c.parcel_of.result
    (λ i. omega (arith, c.type_inv.area i)) c.parcel_of.ensures)

pub returns-clause-none : goal.returns-clause-none
returns-clause-none c =
    rw c.ok.ensures.value
    (first_none c.args.area.now (λ x. (parcel_value x.0, x.1.now)) c.parcel_of.result
    (λ i. omega (arith, c.type_inv.area i)) c.parcel_of.ensures)
