use Rattle.std.proofs.Common.{◌∙◌, arith, ap, ◌*◌, ◌+◌}
use Rattle.roll_text.proofs.Digits.{few_small, next_digit, next_value}
use Rattle.roll_text.proofs.decimal.leading_digits.Goals as goal

pub overflow_mul-n : goal.overflow_mul-n
overflow_mul-n c = omega (arith, few_small _ _ _ c.loop-count.invariant.digits c.loop-count.invariant.few c.loop-count.invariant.value)

pub overflow_add-n : goal.overflow_add-n
overflow_add-n c =
    omega (arith, few_small _ _ _ c.loop-count.invariant.digits c.loop-count.invariant.few c.loop-count.invariant.value, c.from.ensures, c.if-not-is_ascii_digit.ensures.cases)

pub loop-count-preserved : goal.loop-count-preserved
loop-count-preserved c =
    let now = c.loop-count.invariant in
    let digit = c.if-not-is_ascii_digit.ensures.cases in
    let within = c.loop-count-test.true in
    record {
      few = omega (arith, now.few, c.if-count-eq-DIGIT_LIMIT.false);
      digits = next_digit _ _ within digit now.digits;
      value = ap (λ d. 10 * c.loop-count.n + d) c.from.ensures ∙ next_value _ _ _ within digit now.value;
    }
