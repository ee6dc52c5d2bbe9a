use Rattle.std.proofs.Common.{◌≡◌, take}
use Rattle.roll_branch.specs.Changes.{changed_by}
use Rattle.roll_branch.proofs.change.patch.Given as goal

abbrev pub invariant-loop-change : goal.invariant-loop-change
invariant-loop-change l = l.cells.items ≡ changed_by (take l.change-index l.changes) l.row l.fn.cells.items
