use Rattle.std.proofs.Common.{length}
use Rattle.roll_plan.specs.Ranks.{path_named}
use Rattle.roll_plan.proofs.Ranking.{AreLevel}
use Rattle.roll_plan.proofs.rank.compare_rows.Given as goal

abbrev pub invariant-loop-left : goal.invariant-loop-left
invariant-loop-left g l = AreLevel (path_named l.tree l.first) (path_named l.tree l.second) (path_named l.tree l.left) (path_named l.tree l.right)

abbrev pub decreases-loop-left : goal.decreases-loop-left
decreases-loop-left g l = length (path_named l.tree l.left)
