use Rattle.std.proofs.Common.{◌≡◌, eqb, true, false, length, sym, ◌∙◌, arith}
use Rattle.std.proofs.lemmas.Result.{err_from_is_err_and}
use Rattle.roll_carry.proofs.Areas.{area_fails, area_passes, parted}
use Rattle.roll_carry.proofs.reading.area_in.Goals as goal

pub returns-in_err-check_parcels : goal.returns-in_err-check_parcels
returns-in_err-check_parcels c =
    let p = err_from_is_err_and c.from_residual-in_err-check_parcels.result
    c.from_residual-in_err-check_parcels.ensures.1 in
    let d = parted c.args.text.now c.split_at.result.0.now c.split_at.result.1.now
    c.in_ok-_envelope._envelope c.in_ok-_envelope.rest.now c.min.result c.in_ok-_envelope.ensures
    c.min.ensures c.split_at.ensures.front c.split_at.ensures.back in
    rw (p.1, p.2)
    (area_fails c.args.text.now c.split_at.result.0.now c.split_at.result.1.now
    c.in_err-check_parcels.field-0.0 d c.in_err-check_parcels.ensures)

pub returns-then-not-is_empty : goal.returns-then-not-is_empty
returns-then-not-is_empty c =
    let d = parted c.args.text.now c.split_at.result.0.now c.split_at.result.1.now
    c.in_ok-_envelope._envelope c.in_ok-_envelope.rest.now c.min.result c.in_ok-_envelope.ensures
    c.min.ensures c.split_at.ensures.front c.split_at.ensures.back in
    let some : eqb (length c.split_at.result.1.now) 0 ≡ false =
    sym c.is_empty.ensures ∙ c.if-not-is_empty.true in
    rw some at
    (area_passes c.args.text.now c.split_at.result.0.now c.split_at.result.1.now
    (λ i. omega (arith, c.type_inv.text i)) d c.in_ok-check_parcels.ensures)

pub returns : goal.returns
returns c =
    let d = parted c.args.text.now c.split_at.result.0.now c.split_at.result.1.now
    c.in_ok-_envelope._envelope c.in_ok-_envelope.rest.now c.min.result c.in_ok-_envelope.ensures
    c.min.ensures c.split_at.ensures.front c.split_at.ensures.back in
    let none : eqb (length c.split_at.result.1.now) 0 ≡ true =
    sym c.is_empty.ensures ∙ c.if-not-is_empty.false in
    rw none at
    (area_passes c.args.text.now c.split_at.result.0.now c.split_at.result.1.now
    (λ i. omega (arith, c.type_inv.text i)) d c.in_ok-check_parcels.ensures)
