use Rattle.std.proofs.Common.{◌≡◌, ◌⊎◌, ◌≤◌, ◌<◌, List, [], length, get_or, Some, refl, sym, ap, ◌∙◌, arith, inl, inr}
use Rattle.std.proofs.lemmas.Option.{same_Some}
use Rattle.roll_frame.specs.Cells.{Rows}
use Rattle.roll_frame.specs.Paths.{longest}
use Rattle.roll_tree.specs.SavedStates.{paths_of}
use Rattle.roll_tree.specs.Node.{is_child_of}
use Rattle.slab.specs.Slab.{get}
use Rattle.roll_tree.specs.declared.node.Node.{Node}
use Rattle.roll_tree.proofs.Prunes.{ordered_at}
use Rattle.roll_tree.proofs.States.{held_node, paths_are, base_is}
use Rattle.roll_tree.proofs.Way.{way_start, way_past, way_on, way_end, way_length}
use Rattle.roll_tree.proofs.tree.Tree.longest.Goals.{then-is_child, else-is_child, else-loop-name-test, then-loop-name-test+in_default}
use Rattle.roll_tree.proofs.tree.Tree.longest.Goals as goal

pub loop-name-init : goal.loop-name-init
loop-name-init g c = way_start c.self.inside c.args.rows.now c.self.invariant

pub index-requires : goal.index-requires
index-requires g c =
    let within : c.loop-name.name-index < length c.self.inside.order.items = rw c.deref-name-items.ensures.value at c.loop-name-test.true in
    let after = ordered_at c.self.inside.nodes.slots _ c.self.inside.order.items c.self.invariant.ordered c.loop-name.name-index within in
    rw (c.deref-name-items.ensures.value, after.node_is) refl

pub loop-name-preserved : goal.loop-name-preserved
loop-name-preserved g c =
    let t = c.self.inside in
    let tree = c.self.invariant in
    let rows = c.args.rows.now in
    let place = c.loop-name.name-index in
    let node = c.index.result.now in
    let within : place < length t.order.items = rw c.deref-name-items.ensures.value at c.loop-name-test.true in
    let found : get t.nodes (get_or t.order.items place 0) ≡ Some node = rw c.deref-name-items.ensures.value at c.index.ensures in
    let read = c.in-Some.ensures.lookup.3 in
    let row : get_or rows c.loop-name.depth [] ≡ c.in-Some.row.now = sym (read.1 []) in
    let says : is_child_of c.loop-name.best node (get_or rows c.loop-name.depth []) ≡ c.is_child.result = ap (is_child_of c.loop-name.best node) row ∙ sym c.is_child.ensures in
    elim c.if-is_child.branch [
      | then-is_child w ↦
          rw (w.best-is, w.depth-is, c.deref-name-items.ensures.value)
          (way_on t.base t.nodes.slots t.order.items rows tree.links tree.distinct tree.ordered place c.loop-name.best c.loop-name.depth within c.loop-name.invariant node found
          read.0 (says ∙ w.if-is_child.true))
      | else-is_child w ↦
          rw (w.best-is, w.depth-is)
          (way_past t.base t.nodes.slots t.order.items rows tree.links tree.distinct tree.ordered place c.loop-name.best c.loop-name.depth within c.loop-name.invariant node found
          (says ∙ w.if-is_child.false))
    ]

pub returns-clause-node : goal.returns-clause-node
returns-clause-node g c =
    let t = c.self.inside in
    let rows = c.args.rows.now in
    let way = c.loop-name.invariant in
    let over : (length t.order.items ≤ c.loop-name.name-index) ⊎ (length rows ≤ c.loop-name.depth) = elim c.loop-name-test.branch [
      | else-loop-name-test w ↦ inl (rw c.deref-name-items.ensures.value at w.loop-name-test.false)
      | then-loop-name-test+in_default w ↦ inr w.in_default.ensures.lookup.3
    ] in
    let far = way_end t.base t.nodes.slots t.order.items rows c.loop-name.name-index c.loop-name.best c.loop-name.depth way over c.self.invariant.listed in
    let path : longest (paths_of c.args.self.now) rows ≡ c.loop-name.depth = ap (λ (l : List Rows). longest l rows) (paths_are t c.args.self.now c.self.view_is) ∙ far in
    rw (held_node t c.args.self.now c.loop-name.best way.node c.self.view_is c.self.invariant way.node_is, path) way.path_is

pub returns-clause-length : goal.returns-clause-length
returns-clause-length g c =
    let t = c.self.inside in
    let rows = c.args.rows.now in
    let way = c.loop-name.invariant in
    let over : (length t.order.items ≤ c.loop-name.name-index) ⊎ (length rows ≤ c.loop-name.depth) = elim c.loop-name-test.branch [
      | else-loop-name-test w ↦ inl (rw c.deref-name-items.ensures.value at w.loop-name-test.false)
      | then-loop-name-test+in_default w ↦ inr w.in_default.ensures.lookup.3
    ] in
    let far = way_end t.base t.nodes.slots t.order.items rows c.loop-name.name-index c.loop-name.best c.loop-name.depth way over c.self.invariant.listed in
    let path : longest (paths_of c.args.self.now) rows ≡ c.loop-name.depth = ap (λ (l : List Rows). longest l rows) (paths_are t c.args.self.now c.self.view_is) ∙ far in
    let here : c.index-2.result.now ≡ way.node = same_Some _ _ (sym c.index-2.ensures ∙ way.node_is) in
    let end = way_length t rows c.self.invariant c.loop-name.name-index c.loop-name.best c.loop-name.depth way in
    ap (λ (n : Node g.row.S.Denot). n.end) here ∙ omega (arith, end, path, base_is t c.args.self.now c.self.view_is)
