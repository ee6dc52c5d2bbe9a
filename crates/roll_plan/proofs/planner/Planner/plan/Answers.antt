use Rattle.std.proofs.Common.{◌-◌, length-take, arith}
use Rattle.roll_frame.proofs.Beginnings.{longest_within}
use Rattle.roll_tree.specs.SavedStates.{paths_of, time_to}
use Rattle.roll_plan.proofs.Longest.{none_longer}
use Rattle.roll_plan.proofs.planner.Planner.plan.Goals as goal

pub returns-clause-longest : goal.returns-clause-longest
returns-clause-longest g c = none_longer c.args.tree.now (time_to c.args.tree.now c.args.to) c.deepest-start.result.1 c.deepest-start.ensures.length

pub returns-clause-within : goal.returns-clause-within
returns-clause-within g c =
    let t = c.args.tree.now in
    omega (arith, c.deepest-start.ensures.length, longest_within (paths_of t) (time_to t c.args.to), length-take (c.args.to - t.base) t.time, c.requires.from, c.requires.known)
