use Rattle.std.proofs.Common.{refl}
use Rattle.roll_tree.proofs.States.{node_of_held, held_of_node}
use Rattle.roll_tree.proofs.tree.Tree.contains.Goals as goal

pub returns : goal.returns
returns g c = (
  λ h. held_of_node c.self.inside c.args.self.now c.args.node c.self.view_is c.self.invariant (c.contains.ensures.0 h),
  λ h. c.contains.ensures.1 (rw (node_of_held c.self.inside c.args.self.now c.args.node c.self.view_is c.self.invariant h).1 refl),
)
