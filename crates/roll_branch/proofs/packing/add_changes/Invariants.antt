use Rattle.std.proofs.Common.{◌+◌, ◌≤◌, ◌++◌, length, take, drop}
use Rattle.roll_branch.specs.Changes.{AreAdded}
use Rattle.roll_branch.proofs.packing.add_changes.Given as goal

abbrev pub invariant-loop-place : goal.invariant-loop-place
invariant-loop-place l = record {
  added : AreAdded l.number l.before (take l.place l.row ++ drop l.place l.before) l.fn.changes.items l.changes.items;
  few : length l.changes.items ≤ length l.fn.changes.items + l.place;
}
