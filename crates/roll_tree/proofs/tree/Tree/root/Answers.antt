use Rattle.roll_tree.proofs.States.{root_held}
use Rattle.roll_tree.proofs.tree.Tree.root.Goals as goal

pub returns-clause-state_named : goal.returns-clause-state_named
returns-clause-state_named g c = root_held c.self.inside c.args.self.now c.self.view_is c.self.invariant
