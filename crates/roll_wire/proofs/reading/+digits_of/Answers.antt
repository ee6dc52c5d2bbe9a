use Rattle.std.proofs.Common.{◌≡◌, ◌-◌, ◌<◌, ◌≤◌, arith}
use Rattle.std.proofs.lemmas.Result.{err_from_is_err_and}
use Rattle.roll_wire.proofs.Digits.{digits_end, digits_short, limit_next, limit_small, some_limit}
use Rattle.roll_wire.proofs.reading.+digits_of.Goals as goal

pub returns-then-byte-lt128-clause-below : goal.returns-then-byte-lt128-clause-below
returns-then-byte-lt128-clause-below t c =
    let some : 1 ≤ c.args.more = omega arith in
    omega (arith, limit_next c.args.more some, some_limit (c.args.more - 1))

pub returns-in_err-byte-clause-gives : goal.returns-in_err-byte-clause-gives
returns-in_err-byte-clause-gives t c =
    let p = err_from_is_err_and c.from_residual.result c.from_residual.ensures.1 in
    rw (p.1, p.2)
    (digits_short c.args.more c.args.bytes.now c.in_err-byte.field-0.0 c.in_err-byte.ensures)

pub returns-in_err-higher-clause-gives : goal.returns-in_err-higher-clause-gives
returns-in_err-higher-clause-gives t c =
    let p = err_from_is_err_and c.from_residual-in_err-higher.result
    c.from_residual-in_err-higher.ensures.1 in
    rw (p.1, p.2)
    (digits_end c.args.more c.args.bytes.now c.in_ok-byte.byte c.in_ok-byte.rest.now
    c.in_err-higher.field-0.0 (omega arith) c.in_ok-byte.ensures (omega arith)
    c.in_err-higher.ensures.gives)

pub overflow_mul-result : goal.overflow_mul-result
overflow_mul-result t c =
    let some : 1 ≤ c.args.more = omega arith in
    omega (
      arith,
      limit_next c.args.more some,
      limit_small c.args.more c.requires,
      c.in_ok-higher.ensures.below,
    )

pub overflow_add-result : goal.overflow_add-result
overflow_add-result t c =
    let some : 1 ≤ c.args.more = omega arith in
    let same : c.from-2.result ≡ c.in_ok-byte.byte = c.from-2.ensures in
    let small : c.in_ok-byte.byte < 256 = search (arith, c.byte_of.type_inv) in
    omega (
      arith,
      limit_next c.args.more some,
      limit_small c.args.more c.requires,
      c.in_ok-higher.ensures.below,
    )
