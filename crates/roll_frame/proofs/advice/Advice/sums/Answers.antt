use Rattle.std.proofs.Common.{arith}
use Rattle.std.proofs.lemmas.Int.{ints}
use Rattle.std.proofs.lemmas.List.Elements.{All-head}
use Rattle.roll_frame.specs.Advice.{IsHeld}
use Rattle.roll_frame.proofs.Sums.{IsSummed-start, IsSummed-more}
use Rattle.roll_frame.proofs.advice.Advice.sums.Goals as goal

pub loop-local-init : goal.loop-local-init
loop-local-init c = grind (arith, IsSummed-start)

pub loop-local-preserved : goal.loop-local-preserved
loop-local-preserved c =
    let s = rw c.in-Some.ensures.steps at c.loop-local.invariant in
    let p = All-head IsHeld _ _ s.in_range in
    IsSummed-more _ _ c.in-Some.field-0.now _ _ _ _ s (omega (arith, ints)) (omega (arith, ints))

pub overflow_add-local_sum : goal.overflow_add-local_sum
overflow_add-local_sum c =
    let s = rw c.in-Some.ensures.steps at c.loop-local.invariant in
    let p = All-head IsHeld _ _ s.in_range in
    omega (arith, ints)
