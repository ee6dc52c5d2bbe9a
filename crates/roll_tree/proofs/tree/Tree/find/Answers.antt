use Rattle.std.proofs.Common.{◌≡◌, length, sym, arith}
use Rattle.roll_frame.specs.Paths.{longest}
use Rattle.roll_tree.specs.SavedStates.{paths_of}
use Rattle.roll_tree.proofs.Lists.{reached, not_reached}
use Rattle.roll_tree.proofs.tree.Tree.find.Goals as goal

pub returns-then-from-frames-clause-when : goal.returns-then-from-frames-clause-when
returns-then-from-frames-clause-when g c =
    let rows = c.args.path.now.rows.items in
    let far = rw c.as_slice.ensures.value at c.longest-node.ensures.length in
    let whole : longest (paths_of c.args.self.now) rows ≡ length rows = omega (arith, far, c.requires) in
    sym (reached c.args.self.now c.longest-node.result.0 rows (rw c.as_slice.ensures.value at c.longest-node.ensures.node) whole)

pub returns-else-from-frames-clause-when : goal.returns-else-from-frames-clause-when
returns-else-from-frames-clause-when g c =
    let rows = c.args.path.now.rows.items in
    let far = rw c.as_slice.ensures.value at c.longest-node.ensures.length in
    sym (not_reached c.args.self.now rows (λ whole. c.if-from-frames.false (omega (arith, far, whole, c.requires))))
