use Rattle.roll_tree.proofs.Way.{IsOnWay}
use Rattle.roll_tree.proofs.tree.Tree.longest.Given as goal

abbrev pub invariant-loop-name : goal.invariant-loop-name
invariant-loop-name g l = IsOnWay l.self-inside.base l.self-inside.nodes.slots l.self-inside.order.items l.rows l.name-index l.best l.depth
