use Rattle.std.proofs.Common.{◌≡◌, ◌++◌, map, vec_capacity}
use Rattle.roll_tree.specs.SavedStates.{path_of}
use Rattle.roll_plan.specs.Spelled.{beginnings}
use Rattle.roll_plan.proofs.planner.push_beginnings.Given as goal

abbrev pub invariant-loop-length : goal.invariant-loop-length
invariant-loop-length l = record {
  paths : l.paths.items ≡ l.initial.paths.items ++ map (path_of l.base) (beginnings l.way l.length);
  room : vec_capacity l.paths ≡ vec_capacity l.initial.paths;
}
