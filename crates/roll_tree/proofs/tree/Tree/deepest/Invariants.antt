use Rattle.std.proofs.Common.{◌-◌, ◌≤◌, take}
use Rattle.roll_tree.proofs.Way.{IsOnWay}
use Rattle.roll_tree.proofs.tree.Tree.deepest.Given as goal

-- the walk of `longest` along the timeline's rows
abbrev pub invariant-loop-name : goal.invariant-loop-name
invariant-loop-name g l = record {
  low : l.self-inside.base ≤ l.end;
  way : IsOnWay l.self-inside.base l.self-inside.nodes.slots l.self-inside.order.items (take (l.to - l.self-inside.base) l.self-inside.time.items) l.name-index l.best (l.end - l.self-inside.base);
}
