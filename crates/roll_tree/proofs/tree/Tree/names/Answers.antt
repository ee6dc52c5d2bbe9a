use Rattle.std.proofs.Common.{[], map, sym, ap, ◌∙◌}
use Rattle.roll_tree.specs.SavedStates.{Saved, SavedStates}
use Rattle.roll_tree.proofs.States.{names_are}
use Rattle.roll_tree.proofs.tree.Tree.names.Goals as goal

pub returns : goal.returns
returns g c =
    let t = c.self.inside in
    c.deref.ensures.value ∙ sym (ap (λ (k : SavedStates g.row.S.Denot). map (λ (s : Saved g.row.S.Denot). s.name) k.states) (sym c.self.view_is) ∙ names_are t.base t.nodes.slots [] t.order.items c.self.invariant.ordered)
