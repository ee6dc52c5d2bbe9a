use Rattle.roll_tree.proofs.Marking.{IsMarking}
use Rattle.roll_tree.proofs.marks.Change.mark_all.Given as goal

abbrev pub invariant-loop-name : goal.invariant-loop-name
invariant-loop-name g l = IsMarking l.self.base l.old l.new l.fn.nodes l.order l.nodes l.name-index
