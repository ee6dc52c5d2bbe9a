use Rattle.std.proofs.Common.{◌≡◌, map, take, vec_capacity}
use Rattle.roll_tree.specs.SavedStates.{path_of}
use Rattle.roll_plan.specs.Spelled.{spelled}
use Rattle.roll_plan.proofs.planner.push_spelled.Given as goal

abbrev pub invariant-loop-place : goal.invariant-loop-place
invariant-loop-place l = record {
  paths : l.paths.items ≡ map (path_of l.base) (spelled l.way (take l.place l.taken));
  room : vec_capacity l.paths ≡ vec_capacity l.initial.paths;
}
