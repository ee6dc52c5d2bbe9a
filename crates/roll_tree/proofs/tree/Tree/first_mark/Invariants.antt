use Rattle.roll_tree.proofs.Least.{IsSearch, height}
use Rattle.roll_tree.proofs.tree.Tree.first_mark.Given as goal

abbrev pub invariant-loop-edge : goal.invariant-loop-edge
invariant-loop-edge g l = IsSearch l.self-inside l.node l.at l.first

abbrev pub decreases-loop-edge : goal.decreases-loop-edge
decreases-loop-edge g l = height l.self-inside l.at
