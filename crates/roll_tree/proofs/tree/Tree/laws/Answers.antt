use Rattle.std.proofs.Common.{arith}
use Rattle.roll_tree.proofs.States.{is_rooted, is_closed, is_distinct, are_short, are_named, length-states}
use Rattle.roll_tree.proofs.Parents.{is_ordered}
use Rattle.roll_tree.proofs.tree.Tree.laws.Goals as goal

pub returns-clause-rooted : goal.returns-clause-rooted
returns-clause-rooted g c = is_rooted c.self.inside c.args.self.now c.self.view_is c.self.invariant

pub returns-clause-closed : goal.returns-clause-closed
returns-clause-closed g c = is_closed c.self.inside c.args.self.now c.self.view_is c.self.invariant

pub returns-clause-distinct : goal.returns-clause-distinct
returns-clause-distinct g c = is_distinct c.self.inside c.args.self.now c.self.view_is c.self.invariant

pub returns-clause-ordered : goal.returns-clause-ordered
returns-clause-ordered g c = is_ordered c.self.inside c.args.self.now c.self.view_is c.self.invariant

pub returns-clause-short : goal.returns-clause-short
returns-clause-short g c = are_short c.self.inside c.args.self.now c.self.view_is c.self.invariant

pub returns-clause-named : goal.returns-clause-named
returns-clause-named g c = are_named c.self.inside c.args.self.now c.self.view_is c.self.invariant

pub returns-clause-few : goal.returns-clause-few
returns-clause-few g c = omega (arith, length-states c.self.inside c.args.self.now c.self.view_is c.self.invariant, c.self.invariant.counted, c.self.invariant.few)
