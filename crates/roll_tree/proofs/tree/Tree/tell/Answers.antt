use Rattle.std.proofs.Common.{[], ◌∷◌, ◌++◌, refl, sym, ap, subst, ◌∙◌}
use Rattle.roll_frame.specs.Cells.{Rows}
use Rattle.roll_tree.specs.SavedStates.{SavedStates}
use Rattle.roll_tree.specs.Layout.{AreFresh}
use Rattle.roll_tree.specs.declared.tree.Tree.TheInside.{Inside}
use Rattle.roll_tree.proofs.Marking.{marked_tree, marked_view}
use Rattle.roll_tree.proofs.tree.Tree.tell.Goals as goal

pub invariant_of-self : goal.invariant_of-self
invariant_of-self g c =
    let after : Inside g.row.S.Denot = record { base = c.self.inside.base; root = c.self.inside.root; nodes = c.mark_next.new.nodes; order = c.self.inside.order; time = c.push.new.self; tip = c.self.inside.tip } in
    let time = ap (λ (r : Rows). r ++ c.args.row ∷ []) c.deref-2.ensures.0 ∙ sym c.push.ensures.items in
    marked_tree c.self.inside after refl refl refl c.self.invariant c.mark_next.ensures.like
    (subst (λ (r : Rows). AreFresh c.self.inside.base r after.nodes.slots) time c.mark_next.ensures.fresh) c.mark_next.ensures.len c.mark_next.ensures.capacity refl

pub returns : goal.returns
returns g c =
    let after : Inside g.row.S.Denot = record { base = c.self.inside.base; root = c.self.inside.root; nodes = c.mark_next.new.nodes; order = c.self.inside.order; time = c.push.new.self; tip = c.self.inside.tip } in
    let time = c.push.ensures.items ∙ ap (λ (k : SavedStates g.row.S.Denot). k.time ++ c.args.row ∷ []) c.self.view_is in
    marked_view c.self.inside after c.args.self.now (c.args.self.now.time ++ c.args.row ∷ []) refl refl refl time c.self.view_is c.self.invariant c.mark_next.ensures.like
