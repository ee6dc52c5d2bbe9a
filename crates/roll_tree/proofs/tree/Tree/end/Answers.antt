use Rattle.std.proofs.Common.{◌≡◌, ◌+◌, length, refl, ap, ◌∙◌, Some, arith}
use Rattle.std.specs.Prelude.{option_map}
use Rattle.roll_tree.specs.SavedStates.{Saved}
use Rattle.roll_tree.proofs.Nodes.{path_at, length-path_at}
use Rattle.roll_tree.proofs.States.{base_is, node_of_held, held_node}
use Rattle.roll_tree.proofs.tree.Tree.end.Goals as goal

pub index-requires : goal.index-requires
index-requires g c = rw (node_of_held c.self.inside c.args.self.now c.args.node c.self.view_is c.self.invariant c.requires).1 refl

pub returns : goal.returns
returns g c =
    let t = c.self.inside in
    let node = c.index.result.now in
    let end : c.args.self.now.base + length (path_at t.base t.nodes.slots node) ≡ node.end = omega (arith, base_is t c.args.self.now c.self.view_is, length-path_at t.base t.nodes.slots c.self.invariant.links c.args.node node c.index.ensures) in
    ap (option_map (λ (s : Saved g.row.S.Denot). c.args.self.now.base + length s.path)) (held_node t c.args.self.now c.args.node node c.self.view_is c.self.invariant c.index.ensures)
    ∙ ap Some end
