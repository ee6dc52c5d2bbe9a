use Rattle.std.proofs.Common.{◌≡◌, ◌+◌, ◌-◌, ◌≤◌, ◌<◌, ℕ, length, get_or, Some, refl, sym, ap, subst, ◌∙◌, arith, inl, inr, length-take}
use Rattle.slab.specs.Slab.{get}
use Rattle.roll_tree.proofs.Prunes.{ordered_at}
use Rattle.roll_tree.proofs.States.{base_is}
use Rattle.roll_tree.proofs.Way.{IsOnWay, way_start, way_past, way_on}
use Rattle.roll_tree.proofs.Deepest.{known, unmarked_child, deepest_node, deepest_length}
use Rattle.roll_tree.specs.SavedStates.{SavedStates}
use Rattle.roll_tree.proofs.tree.Tree.deepest.Goals.{then-is_unmarked_child, else-is_unmarked_child}
use Rattle.roll_tree.proofs.tree.Tree.deepest.Goals as goal

pub loop-name-init : goal.loop-name-init
loop-name-init g c =
    let t = c.self.inside in
    let none : 0 ≡ t.base - t.base = omega arith in
    record {
      low = omega arith;
      way = subst (λ (n : ℕ). IsOnWay t.base t.nodes.slots t.order.items (known t c.self.invariant c.args.to) 0 t.root n) none (way_start t (known t c.self.invariant c.args.to) c.self.invariant);
    }

pub index-requires : goal.index-requires
index-requires g c =
    let within : c.loop-name.name-index < length c.self.inside.order.items = rw c.deref-name-items.ensures.value at c.loop-name-test.true in
    let after = ordered_at c.self.inside.nodes.slots _ c.self.inside.order.items c.self.invariant.ordered c.loop-name.name-index within in
    rw (c.deref-name-items.ensures.value, after.node_is) refl

pub loop-name-preserved : goal.loop-name-preserved
loop-name-preserved g c =
    let t = c.self.inside in
    let tree = c.self.invariant in
    let rows = known t tree c.args.to in
    let place = c.loop-name.name-index in
    let best = c.loop-name.best in
    let depth = c.loop-name.end - t.base in
    let way = c.loop-name.invariant.way in
    let node = c.index.result.now in
    let within : place < length t.order.items = rw c.deref-name-items.ensures.value at c.loop-name-test.true in
    let found : get t.nodes (get_or t.order.items place 0) ≡ Some node = rw c.deref-name-items.ensures.value at c.index.ensures in
    let base = base_is t c.args.self.now c.self.view_is in
    let time = ap (λ (k : SavedStates g.row.S.Denot). length k.time) c.self.view_is in
    let room : depth < length rows = omega (arith, length-take (c.args.to - t.base) t.time.items, way.within, c.loop-name.invariant.low, c.if-end-to.false, base, time, c.requires.known) in
    let says = sym (unmarked_child t tree c.args.to place best depth way (get_or t.order.items place 0) node found room) ∙ sym c.is_unmarked_child.ensures in
    elim c.if-is_unmarked_child.branch [
      | then-is_unmarked_child w ↦
          let deep : depth + 1 ≡ c.loop-name.end + 1 - t.base = omega (arith, c.loop-name.invariant.low) in
          record {
            low = omega (arith, w.end-is, c.loop-name.invariant.low);
            way = rw (w.best-is, w.end-is, c.deref-name-items.ensures.value)
                (subst (IsOnWay t.base t.nodes.slots t.order.items rows (place + 1) (get_or t.order.items place 0)) deep
                (way_on t.base t.nodes.slots t.order.items rows tree.links tree.distinct tree.ordered place best depth within way node found room (says ∙ w.if-is_unmarked_child.true)));
          }
      | else-is_unmarked_child w ↦ record {
        low = omega (arith, w.end-is, c.loop-name.invariant.low);
        way = rw (w.best-is, w.end-is)
            (way_past t.base t.nodes.slots t.order.items rows tree.links tree.distinct tree.ordered place best depth within way node found (says ∙ w.if-is_unmarked_child.false));
      }
    ]

pub returns-after-loop-name-clause-node : goal.returns-after-loop-name-clause-node
returns-after-loop-name-clause-node g c =
    let over : length c.self.inside.order.items ≤ c.loop-name.name-index = rw c.deref-name-items.ensures.value at c.loop-name-test.false in
    deepest_node c.self.inside c.self.invariant c.args.to c.loop-name.name-index c.loop-name.best (c.loop-name.end - c.self.inside.base) c.loop-name.invariant.way c.args.self.now c.self.view_is (inl over)

pub returns-after-loop-name-clause-length : goal.returns-after-loop-name-clause-length
returns-after-loop-name-clause-length g c =
    let over : length c.self.inside.order.items ≤ c.loop-name.name-index = rw c.deref-name-items.ensures.value at c.loop-name-test.false in
    let far = deepest_length c.self.inside c.self.invariant c.args.to c.loop-name.name-index c.loop-name.best (c.loop-name.end - c.self.inside.base) c.loop-name.invariant.way c.args.self.now c.self.view_is (inl over) in
    omega (arith, far, c.loop-name.invariant.low)

pub returns-then-end-to-clause-node : goal.returns-then-end-to-clause-node
returns-then-end-to-clause-node g c =
    let t = c.self.inside in
    let over : length (known t c.self.invariant c.args.to) ≤ c.loop-name.end - t.base = omega (arith, length-take (c.args.to - t.base) t.time.items, c.if-end-to.true) in
    deepest_node t c.self.invariant c.args.to c.loop-name.name-index c.loop-name.best (c.loop-name.end - t.base) c.loop-name.invariant.way c.args.self.now c.self.view_is (inr over)

pub returns-then-end-to-clause-length : goal.returns-then-end-to-clause-length
returns-then-end-to-clause-length g c =
    let t = c.self.inside in
    let over : length (known t c.self.invariant c.args.to) ≤ c.loop-name.end - t.base = omega (arith, length-take (c.args.to - t.base) t.time.items, c.if-end-to.true) in
    let far = deepest_length t c.self.invariant c.args.to c.loop-name.name-index c.loop-name.best (c.loop-name.end - t.base) c.loop-name.invariant.way c.args.self.now c.self.view_is (inr over) in
    omega (arith, far, c.loop-name.invariant.low)
