use Rattle.std.proofs.Common.{◌≡◌, ◌≤◌, length, take, vec_capacity}
use Rattle.roll_frame.specs.declared.limits.TheConstants.{TREE_LIMIT}
use Rattle.roll_tree.specs.SavedStates.{path_of}
use Rattle.roll_plan.specs.Ranks.{entries_by, entry_by_marks, path_named}
use Rattle.roll_plan.proofs.planner.name_differs.Given as goal

abbrev pub invariant-loop-place : goal.invariant-loop-place
invariant-loop-place g l = record {
  entries : l.differs.items ≡ entries_by (λ state name. entry_by_marks l.tree state (path_of l.tree.base (path_named l.tree name))) l.first (take l.place l.passed);
  few : length l.differs.items ≤ l.place;
  room : TREE_LIMIT ≤ vec_capacity l.differs;
}
