use Rattle.std.proofs.Common.{◌≡◌, ◌+◌, ◌≤◌, length, vec_capacity}
use Rattle.roll_frame.specs.declared.limits.TheConstants.{TREE_LIMIT}
use Rattle.roll_plan.specs.Ranks.{path_named}
use Rattle.roll_plan.proofs.Taking.{AreTaken, IsNext}
use Rattle.roll_plan.proofs.planner.take_others.Given as goal

abbrev pub invariant-loop-node : goal.invariant-loop-node
invariant-loop-node g l = record {
  taken : AreTaken l.tree (path_named l.tree l.start) l.node-index l.on_way l.taken.items;
  next : IsNext l.tree (path_named l.tree l.start) l.on_way l.next l.below.items;
  count : length l.taken.items + l.on_way ≡ l.node-index;
  room : TREE_LIMIT ≤ vec_capacity l.taken;
}
