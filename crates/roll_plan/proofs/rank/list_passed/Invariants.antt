use Rattle.std.proofs.Common.{◌≡◌, ◌≤◌, ◌+◌, length, map, take, vec_capacity}
use Rattle.std.specs.List.{count_by, filter}
use Rattle.roll_frame.specs.declared.limits.TheConstants.{TREE_LIMIT}
use Rattle.roll_tree.specs.SavedStates.{path_of}
use Rattle.roll_plan.specs.Ranks.{is_before, is_passed}
use Rattle.roll_plan.proofs.rank.list_passed.Given as goal

abbrev pub invariant-loop-node : goal.invariant-loop-node
invariant-loop-node g l = record {
  names : l.passed.items ≡ map (λ s. s.name) (filter (λ s. is_passed l.from l.to (path_of l.tree.base s.path)) (take l.node-index l.tree.states));
  before : l.before ≡ count_by (λ s. is_before l.from (path_of l.tree.base s.path)) (take l.node-index l.tree.states);
  few : l.before + length l.passed.items ≤ l.node-index;
  room : TREE_LIMIT ≤ vec_capacity l.passed;
}
