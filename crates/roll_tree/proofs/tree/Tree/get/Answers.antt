use Rattle.std.proofs.Common.{refl, ap}
use Rattle.std.specs.Prelude.{option_map}
use Rattle.roll_tree.specs.SavedStates.{Saved}
use Rattle.roll_tree.proofs.States.{node_of_held, held_node}
use Rattle.roll_tree.proofs.tree.Tree.get.Goals as goal

pub index-requires : goal.index-requires
index-requires g c = rw (node_of_held c.self.inside c.args.self.now c.args.node c.self.view_is c.self.invariant c.requires).1 refl

pub returns : goal.returns
returns g c = ap (option_map (λ (s : Saved g.row.S.Denot). s.snapshot)) (held_node c.self.inside c.args.self.now c.args.node c.index.result.now c.self.view_is c.self.invariant c.index.ensures)
