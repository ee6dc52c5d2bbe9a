use Rattle.std.proofs.Common.{arith}
use Rattle.std.proofs.lemmas.List.{at_drop_all, at_drop_more}
use Rattle.roll_viewer.specs.Rows.{most_of}
use Rattle.roll_viewer.proofs.rows.most_of.Goals as goal

pub loop-count-preserved : goal.loop-count-preserved
loop-count-preserved c =
    let next = at_drop_more most_of c.args.counts.now c.loop-count.count-index 0 c.loop-count-test.true in
    omega (arith, next, c.max-most.ensures, c.loop-count.invariant)

pub returns : goal.returns
returns c =
    omega (arith, at_drop_all most_of c.args.counts.now c.loop-count.count-index c.loop-count-test.false, c.loop-count.invariant)
