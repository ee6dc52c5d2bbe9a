use Rattle.std.proofs.Common.{◌≡◌, Some, None, sym, ap, ◌∙◌}
use Rattle.std.specs.Prelude.{option_map}
use Rattle.std.proofs.lemmas.Option.{same_Some}
use Rattle.roll_tree.specs.SavedStates.{Saved, SavedStates}
use Rattle.roll_frame.specs.Claims.{least_place}
use Rattle.roll_tree.specs.declared.node.Node.{Node}
use Rattle.roll_tree.proofs.Nodes.{path_at}
use Rattle.roll_tree.proofs.States.{node_of_held, held_node}
use Rattle.roll_tree.proofs.Least.{IsSearch-start, IsSearch-more, IsSearch-done, climbs}
use Rattle.roll_tree.proofs.tree.Tree.first_mark.Goals as goal

pub loop-edge-init : goal.loop-edge-init
loop-edge-init g c =
    let there = node_of_held c.self.inside c.args.self.now c.args.node c.self.view_is c.self.invariant c.requires in
    IsSearch-start c.self.inside c.args.node there.0 there.1

pub loop-edge-smaller-in-Some-least_marked : goal.loop-edge-smaller-in-Some-least_marked
loop-edge-smaller-in-Some-least_marked g c = climbs c.self.inside c.self.invariant c.loop-edge.at c.index.result.now c.in-Some.edge c.index.ensures c.in-Some.is

pub loop-edge-smaller : goal.loop-edge-smaller
loop-edge-smaller g c = climbs c.self.inside c.self.invariant c.loop-edge.at c.index.result.now c.in-Some.edge c.index.ensures c.in-Some.is

pub loop-edge-preserved-in-Some-least_marked : goal.loop-edge-preserved-in-Some-least_marked
loop-edge-preserved-in-Some-least_marked g c =
    let s = c.loop-edge.invariant in
    let here : c.index.result.now ≡ s.here = same_Some _ _ (sym c.index.ensures ∙ s.here_is) in
    let again : c.index-in-Some-least_marked.result.now ≡ s.here = same_Some _ _ (sym c.index-in-Some-least_marked.ensures ∙ s.here_is) in
    let edge : s.here.edge ≡ Some c.in-Some.edge = ap (λ (n : Node g.row.S.Denot). n.edge) (sym here) ∙ c.in-Some.is in
    let more = IsSearch-more c.self.inside c.self.invariant c.args.node c.loop-edge.at c.loop-edge.first c.in-Some.edge c.least_marked.result s edge c.least_marked.ensures in
    rw (again) (rw c.in-Some-least_marked.is at more)

pub loop-edge-preserved : goal.loop-edge-preserved
loop-edge-preserved g c =
    let s = c.loop-edge.invariant in
    let here : c.index.result.now ≡ s.here = same_Some _ _ (sym c.index.ensures ∙ s.here_is) in
    let edge : s.here.edge ≡ Some c.in-Some.edge = ap (λ (n : Node g.row.S.Denot). n.edge) (sym here) ∙ c.in-Some.is in
    let more = IsSearch-more c.self.inside c.self.invariant c.args.node c.loop-edge.at c.loop-edge.first c.in-Some.edge c.least_marked.result s edge c.least_marked.ensures in
    rw c.in_default-least_marked.is at more

pub returns : goal.returns
returns g c =
    let t = c.self.inside in
    let s = c.loop-edge.invariant in
    let here : c.index.result.now ≡ s.here = same_Some _ _ (sym c.index.ensures ∙ s.here_is) in
    let none : s.here.edge ≡ None = ap (λ (n : Node g.row.S.Denot). n.edge) (sym here) ∙ c.in_default.is in
    ap (option_map (λ (u : Saved g.row.S.Denot). least_place c.args.self.now.base u.path c.args.self.now.time)) (held_node t c.args.self.now c.args.node s.from c.self.view_is c.self.invariant s.from_is)
    ∙ sym (ap (λ (k : SavedStates g.row.S.Denot). Some (least_place k.base (path_at t.base t.nodes.slots s.from) k.time)) c.self.view_is)
    ∙ ap Some (IsSearch-done t c.self.invariant c.args.node c.loop-edge.at c.loop-edge.first s none)
