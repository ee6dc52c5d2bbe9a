use Rattle.std.proofs.Common.{arith}
use Rattle.roll_frame.proofs.Beginnings.{longest_within}
use Rattle.roll_tree.specs.SavedStates.{paths_of}
use Rattle.roll_session.proofs.guess.start_along.Goals as goal

pub route_at-requires-clause-within : goal.route_at-requires-clause-within
route_at-requires-clause-within g c = omega (arith, c.longest-node.ensures.length, c.base-base.ensures, longest_within (paths_of c.tree-tree.result.now) c.args.rows.now)

pub returns-clause-left : goal.returns-clause-left
returns-clause-left g c =
    let long = rw c.tree-tree.ensures at c.longest-node.ensures.length in
    let base = rw c.tree-tree.ensures at c.base-base.ensures in
    omega (arith, long, base, longest_within (paths_of c.args.saves.now.tree) c.args.rows.now, c.if-depth-rows.false)
