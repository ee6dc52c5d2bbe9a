use Rattle.std.proofs.Common.{◌≤◌, length, refl, sym, ◌∙◌, arith}
use Rattle.std.proofs.lemmas.Bool.{eqb-true}
use Rattle.std.proofs.lemmas.Result.{err_from_is_err_and}
use Rattle.roll_carry.specs.Spelling.{parcel_value}
use Rattle.roll_carry.proofs.Areas.{ends, goes_on, is_done, shorter, some_left}
use Rattle.roll_carry.proofs.reading.check_parcels.Goals as goal

pub loop-rest-init : goal.loop-rest-init
loop-rest-init c = record { same = refl; are_bytes = λ i. omega (arith, c.type_inv.area i) }

pub returns-in_err-_parcel : goal.returns-in_err-_parcel
returns-in_err-_parcel c =
    let p = err_from_is_err_and c.from_residual.result c.from_residual.ensures.1 in
    let some : 1 ≤ length c.loop-rest.rest.now =
    some_left c.loop-rest.rest.now (sym c.is_empty.ensures ∙ c.loop-rest-test.true) in
    rw (p.1, p.2)
    (sym (ends c.args.area.now c.loop-rest.rest.now c.in_err-_parcel.field-0.0 some
    c.in_err-_parcel.ensures c.loop-rest.invariant))

pub loop-rest-smaller : goal.loop-rest-smaller
loop-rest-smaller c =
    omega (
      arith,
      shorter c.loop-rest.rest.now (parcel_value c.in_ok-_parcel._parcel)
          c.in_ok-_parcel.after.now c.loop-rest.invariant.are_bytes c.in_ok-_parcel.ensures,
    )

pub loop-rest-preserved : goal.loop-rest-preserved
loop-rest-preserved c =
    goes_on c.args.area.now c.loop-rest.rest.now (parcel_value c.in_ok-_parcel._parcel)
    c.in_ok-_parcel.after.now c.in_ok-_parcel.ensures c.loop-rest.invariant

pub returns : goal.returns
returns c =
    sym (is_done c.args.area.now c.loop-rest.rest.now
    (eqb-true (length c.loop-rest.rest.now) 0 (sym c.is_empty.ensures ∙ c.loop-rest-test.false))
    c.loop-rest.invariant)
