use Rattle.std.proofs.Common.{arith, map}
use Rattle.std.proofs.lemmas.Grind.{common_steps}
use Rattle.roll_text.proofs.Lists.{no_list, list_from}
use Rattle.roll_text.proofs.list.numbers.Goals as goal

pub returns-in_default : goal.returns-in_default
returns-in_default c = no_list c.args.text.now (map (λ part. part.now) c.deref-part-items.result.now) c.loop-part.part-index
    (rw c.deref-part-items.ensures.value c.in_ok-parts.ensures) (grind (arith, common_steps))
    (λ n small e. c.in_default.ensures n small (grind (arith, common_steps, e)))

pub loop-part-preserved : goal.loop-part-preserved
loop-part-preserved c = record {
  words = grind (arith, common_steps);
  read = grind (arith, common_steps, c.in-Some.ensures.1);
}

pub returns : goal.returns
returns c = list_from c.args.text.now c.loop-part.numbers.items (map (λ part. part.now) c.deref-part-items.result.now)
    (rw c.deref-part-items.ensures.value c.in_ok-parts.ensures) c.loop-part.invariant.words (grind (arith, common_steps))
