use Rattle.std.proofs.Common.{◌-◌, length}
use Rattle.roll_plan.specs.Ranks.{path_named}
use Rattle.roll_plan.proofs.Climbing.{IsClimbed}
use Rattle.roll_plan.proofs.planner.way_to.Given as goal

abbrev pub decreases-loop-above : goal.decreases-loop-above
decreases-loop-above g l = length (path_named l.tree l.start) - length l.names.items

abbrev pub invariant-loop-above : goal.invariant-loop-above
invariant-loop-above g l = IsClimbed l.tree l.start l.at l.names.items
