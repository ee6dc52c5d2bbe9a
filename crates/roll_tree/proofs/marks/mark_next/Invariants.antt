use Rattle.std.proofs.Common.{[], ◌∷◌, ◌++◌}
use Rattle.roll_tree.proofs.Marking.{IsMarking}
use Rattle.roll_tree.proofs.marks.mark_next.Given as goal

abbrev pub invariant-loop-name : goal.invariant-loop-name
invariant-loop-name g l = IsMarking l.base l.time (l.time ++ l.row ∷ []) l.fn.nodes l.order l.nodes l.name-index
