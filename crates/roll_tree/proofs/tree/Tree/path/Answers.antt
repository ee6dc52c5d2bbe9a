use Rattle.std.proofs.Common.{◌≡◌, Some, None, sym, ap, ◌∙◌, reverse}
use Rattle.std.specs.Prelude.{option_map}
use Rattle.std.proofs.lemmas.Option.{same_Some}
use Rattle.roll_frame.specs.Cells.{Rows}
use Rattle.roll_tree.specs.SavedStates.{Saved}
use Rattle.roll_tree.specs.declared.node.Node.{Node}
use Rattle.roll_tree.proofs.States.{node_of_held, held_node}
use Rattle.roll_tree.proofs.Walks.{IsWalk-start, IsWalk-more, IsWalk-done, refilled}
use Rattle.roll_tree.proofs.tree.Tree.path.Goals as goal

pub loop-edge-init : goal.loop-edge-init
loop-edge-init g c =
    let there = node_of_held c.self.inside c.args.self.now c.args.node c.self.view_is c.self.invariant c.requires in
    rw c.new-rows.ensures (IsWalk-start c.self.inside.base c.self.inside.nodes.slots c.args.node there.0 there.1)

pub loop-edge-preserved : goal.loop-edge-preserved
loop-edge-preserved g c =
    let w = c.loop-edge.invariant in
    let here : c.index.result.now ≡ w.here = same_Some _ _ (sym c.index.ensures ∙ w.here_is) in
    let edge : w.here.edge ≡ Some c.in-Some.edge = ap (λ (n : Node g.row.S.Denot). n.edge) (sym here) ∙ c.in-Some.is in
    rw c.push.ensures.items (IsWalk-more c.self.inside.base c.self.inside.nodes.slots c.args.node c.loop-edge.at c.loop-edge.rows.items c.in-Some.edge c.self.invariant.links w edge)

pub returns-clause-rows : goal.returns-clause-rows
returns-clause-rows g c =
    let w = c.loop-edge.invariant in
    let here : c.index.result.now ≡ w.here = same_Some _ _ (sym c.index.ensures ∙ w.here_is) in
    let none : w.here.edge ≡ None = ap (λ (n : Node g.row.S.Denot). n.edge) (sym here) ∙ c.in_default.is in
    let done = IsWalk-done c.self.inside.base c.self.inside.nodes.slots c.args.node c.loop-edge.at c.loop-edge.rows.items c.self.invariant.links w none in
    ap (option_map (λ (s : Saved g.row.S.Denot). s.path)) (held_node c.self.inside c.args.self.now c.args.node w.from c.self.view_is c.self.invariant w.from_is)
    ∙ ap Some (done ∙ sym (refilled c.loop-edge.rows.items c.reverse.new.self (rw c.deref_mut.ensures.value at c.reverse.ensures.len) ∙ c.reverse.ensures.after ∙ ap (λ (r : Rows). reverse r) c.deref_mut.ensures.value))
