use Rattle.std.proofs.Common.{refl}
use Rattle.roll_tree.proofs.Parents.{above_edge, above_root}
use Rattle.roll_tree.proofs.States.{node_of_held}
use Rattle.roll_tree.proofs.tree.Tree.above.Goals as goal

pub index-requires : goal.index-requires
index-requires g c = rw (node_of_held c.self.inside c.args.self.now c.args.node c.self.view_is c.self.invariant c.requires).1 refl

pub returns-in-Some : goal.returns-in-Some
returns-in-Some g c = above_edge c.self.inside c.args.self.now c.self.view_is c.self.invariant c.args.node c.index.result.now c.in-Some.edge c.index.ensures c.in-Some.is

pub returns-in-None : goal.returns-in-None
returns-in-None g c = above_root c.self.inside c.args.self.now c.self.view_is c.self.invariant c.args.node c.index.result.now c.index.ensures c.in-None.is
