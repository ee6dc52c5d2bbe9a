use Rattle.std.proofs.Common.{arith}
use Rattle.roll_tree.proofs.States.{length-states}
use Rattle.roll_tree.proofs.tree.Tree.len.Goals as goal

pub returns-clause-value : goal.returns-clause-value
returns-clause-value g c = omega (arith, length-states c.self.inside c.args.self.now c.self.view_is c.self.invariant)
