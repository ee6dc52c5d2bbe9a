use Rattle.std.proofs.Common.{◌-◌}
use Rattle.std.specs.Option.{option_map_or}
use Rattle.roll_tree.specs.Layout.{node_at}
use Rattle.roll_tree.proofs.Walks.{IsWalk}
use Rattle.roll_tree.proofs.tree.Tree.path.Given as goal

-- the rows so far, last first, lead on from the node where the walk stands
abbrev pub invariant-loop-edge : goal.invariant-loop-edge
invariant-loop-edge g l = IsWalk l.self-inside.base l.self-inside.nodes.slots l.node l.at l.rows.items

abbrev pub decreases-loop-edge : goal.decreases-loop-edge
decreases-loop-edge g l = option_map_or (λ n. n.end) (node_at l.self-inside.nodes.slots l.at) 0 - l.self-inside.base
