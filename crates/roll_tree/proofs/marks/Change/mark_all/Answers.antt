use Rattle.std.proofs.Common.{refl}
use Rattle.roll_tree.proofs.Marking.{untouched_node, was_fresh, IsMarking-more}
use Rattle.roll_tree.proofs.marks.Change.mark_all.Goals as goal

pub index-node-requires : goal.index-node-requires
index-node-requires g c = rw (untouched_node c.args.self.now.base c.args.old.now c.args.new.now c.args.nodes.now c.args.order.now c.requires.linked c.requires.ordered c.loop-name.nodes c.loop-name.name-index c.loop-name-test.true c.loop-name.invariant) refl

pub marks-marks-requires-clause-fresh : goal.marks-marks-requires-clause-fresh
marks-marks-requires-clause-fresh g c = was_fresh c.args.self.now.base c.args.old.now c.args.new.now c.args.nodes.now c.args.order.now c.requires.linked c.requires.ordered c.loop-name.nodes c.loop-name.name-index c.loop-name-test.true c.loop-name.invariant c.requires.fresh c.index-node.result.now c.in-Some.edge c.index-node.ensures c.in-Some.is

pub loop-name-preserved : goal.loop-name-preserved
loop-name-preserved g c =
    let changed = rw c.index-node.ensures at c.set_marks.ensures.changed in
    IsMarking-more c.args.self.now.base c.args.old.now c.args.new.now c.args.nodes.now c.args.order.now c.requires.linked c.requires.ordered c.loop-name.nodes c.loop-name.name-index c.loop-name-test.true c.loop-name.invariant
    c.set_marks.new.nodes c.index-node.result.now c.in-Some.edge c.marks-marks.result c.index-node.ensures c.in-Some.is c.marks-marks.ensures changed c.set_marks.ensures.others c.set_marks.ensures.len c.set_marks.ensures.capacity
