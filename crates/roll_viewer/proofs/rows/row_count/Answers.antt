use Rattle.std.proofs.Common.{arith}
use Rattle.std.proofs.lemmas.List.{at_drop_all, at_drop_more}
use Rattle.roll_mesh.specs.Machines.{none_offered}
use Rattle.roll_viewer.specs.Rows.{row_count}
use Rattle.roll_viewer.proofs.rows.row_count.Goals as goal

pub loop-offer-preserved : goal.loop-offer-preserved
loop-offer-preserved c =
    omega (arith, at_drop_more row_count c.args.offers.now c.loop-offer.offer-index none_offered c.loop-offer-test.true, c.loop-offer.invariant)

pub returns : goal.returns
returns c =
    omega (arith, at_drop_all row_count c.args.offers.now c.loop-offer.offer-index c.loop-offer-test.false, c.loop-offer.invariant)
