use Rattle.std.proofs.Common.{◌≡◌, ◌-◌, [], ◌∷◌, ◌++◌, length, refl, sym, subst, arith}
use Rattle.roll_tree.specs.Marks.{AreMarks}
use Rattle.roll_tree.proofs.Marking.{fresh_before, untouched_node, IsMarking-kept, IsMarking-more, next_row, other_row}
use Rattle.roll_tree.proofs.marks.mark_next.Goals as goal

pub index-node-requires : goal.index-node-requires
index-node-requires g c = rw (untouched_node c.args.base c.args.time.now (c.args.time.now ++ c.args.row.now ∷ []) c.args.nodes.now c.args.order.now c.requires.linked c.requires.ordered c.loop-name.nodes c.loop-name.name-index c.loop-name-test.true c.loop-name.invariant) refl

pub loop-name-preserved-then-from-end-2 : goal.loop-name-preserved-then-from-end-2
loop-name-preserved-then-from-end-2 g c =
    let rows = c.args.time.now ++ c.args.row.now ∷ [] in
    let node = c.index-node.result.now in
    IsMarking-kept c.args.base c.args.time.now rows c.args.nodes.now c.args.order.now c.requires.linked c.requires.ordered c.loop-name.nodes c.loop-name.name-index c.loop-name-test.true c.loop-name.invariant
    c.requires.fresh node c.index-node.ensures
    (λ below. other_row c.args.time.now c.args.row.now (node.end - c.args.base - 1) (λ same. absurd (c.if-from-end-2.true (omega (arith, below, same)))))

pub loop-name-preserved : goal.loop-name-preserved
loop-name-preserved g c =
    let rows = c.args.time.now ++ c.args.row.now ∷ [] in
    let node = c.index-node.result.now in
    let changed = rw c.index-node.ensures at c.set_marks.ensures.changed in
    let place : node.end - c.args.base - 1 ≡ length c.args.time.now = omega arith in
    IsMarking-more c.args.base c.args.time.now rows c.args.nodes.now c.args.order.now c.requires.linked c.requires.ordered c.loop-name.nodes c.loop-name.name-index c.loop-name-test.true c.loop-name.invariant
    c.set_marks.new.nodes node c.in-Some.edge c.marks_of-marks.result c.index-node.ensures c.in-Some.is
    (subst (λ o. AreMarks o c.in-Some.edge.row c.marks_of-marks.result) (sym (next_row c.args.time.now c.args.row.now (node.end - c.args.base - 1) place)) c.marks_of-marks.ensures)
    changed c.set_marks.ensures.others c.set_marks.ensures.len c.set_marks.ensures.capacity

pub returns-then-from-end-clause-fresh : goal.returns-then-from-end-clause-fresh
returns-then-from-end-clause-fresh g c = fresh_before c.args.base c.args.tip c.args.time.now c.args.row.now c.args.nodes.now.slots c.requires.linked c.requires.fresh c.requires.tall (omega (arith, c.if-from-end.true))
