use Rattle.std.proofs.Common.{[], refl, arith}
use Rattle.roll_tree.specs.declared.tree.Tree.TheInside.{Inside}
use Rattle.roll_tree.proofs.States.{node_of_held, held_node}
use Rattle.roll_tree.proofs.Pruning.{settle_root, settle_tree, settle_view, detached_order}
use Rattle.roll_tree.proofs.tree.Tree.settle_at.Goals as goal

pub returns-then-node-self : goal.returns-then-node-self
returns-then-node-self g c = settle_root c.self.inside c.args.self.now c.args.node c.self.view_is c.self.invariant c.if-node-self.true

pub index-requires : goal.index-requires
index-requires g c = rw (node_of_held c.self.inside c.args.self.now c.args.node c.self.view_is c.self.invariant c.requires).1 refl

pub prune-requires : goal.prune-requires
prune-requires g c =
    let lost = rw c.index.ensures at c.set_edge.ensures.changed in
    detached_order c.self.inside.nodes.slots c.set_edge.new.nodes.slots c.args.node c.index.result.now lost c.set_edge.ensures.others [] c.self.inside.order.items c.self.invariant.ordered

pub invariant_of-self : goal.invariant_of-self
invariant_of-self g c =
    let after : Inside g.row.S.Denot = record { base = c.index.result.now.end; root = c.args.node; nodes = c.prune.new.nodes; order = c.prune.new.order; time = c.drop_first.new.rows; tip = c.self.inside.tip } in
    let lost = rw c.index.ensures at c.set_edge.ensures.changed in
    settle_tree c.self.inside c.self.invariant c.args.node c.index.result.now c.index.ensures c.set_edge.new.nodes lost c.set_edge.ensures.others c.set_edge.ensures.len after refl refl c.drop_first.ensures c.prune.ensures.pruned
    (omega (arith, c.prune.ensures.capacity, c.set_edge.ensures.capacity, c.self.invariant.room)) (omega (arith, c.prune.ensures.space, c.self.invariant.space)) refl

pub returns : goal.returns
returns g c =
    let after : Inside g.row.S.Denot = record { base = c.index.result.now.end; root = c.args.node; nodes = c.prune.new.nodes; order = c.prune.new.order; time = c.drop_first.new.rows; tip = c.self.inside.tip } in
    let lost = rw c.index.ensures at c.set_edge.ensures.changed in
    rw (held_node c.self.inside c.args.self.now c.args.node c.index.result.now c.self.view_is c.self.invariant c.index.ensures)
    (settle_view c.self.inside c.self.invariant c.args.node c.index.result.now c.index.ensures c.set_edge.new.nodes lost c.set_edge.ensures.others c.set_edge.ensures.len after refl refl c.drop_first.ensures c.prune.ensures.pruned c.args.self.now c.self.view_is)
