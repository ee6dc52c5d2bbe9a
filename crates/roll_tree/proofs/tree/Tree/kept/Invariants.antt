use Rattle.std.proofs.Common.{◌≡◌, ◌≤◌, take, map, vec_capacity, length}
use Rattle.roll_tree.specs.SavedStates.{path_of, paths_of}
use Rattle.roll_tree.proofs.tree.Tree.kept.Given as goal

-- the paths of the states so far, with room for the others
abbrev pub invariant-loop-name : goal.invariant-loop-name
invariant-loop-name g l = record {
  paths : l.paths.items ≡ map (path_of l.self.base) (take l.name-index (paths_of l.self));
  room : length (paths_of l.self) ≤ vec_capacity l.paths;
}
