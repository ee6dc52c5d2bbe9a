use Rattle.std.proofs.Common.{◌≡◌, ◌++◌, refl, sym, ap, subst, ◌∙◌}
use Rattle.roll_frame.specs.Cells.{Rows}
use Rattle.roll_tree.specs.Layout.{AreFresh}
use Rattle.roll_tree.specs.declared.tree.Tree.TheInside.{Inside}
use Rattle.roll_tree.proofs.Marking.{marked_tree, marked_view}
use Rattle.roll_tree.proofs.tree.Tree.mark.Goals as goal

pub invariant_of-self : goal.invariant_of-self
invariant_of-self g c =
    let after : Inside g.row.S.Denot = record { base = c.self.inside.base; root = c.self.inside.root; nodes = c.mark_all.new.nodes; order = c.self.inside.order; time = c.try_extend_from_slice.new.self; tip = c.self.inside.tip } in
    let time : after.time.items ≡ c.args.rows.now = (rw c.unwrap.ensures at c.try_extend_from_slice.ensures.ok) ∙ ap (λ (r : Rows). r ++ c.args.rows.now) c.clear.ensures in
    marked_tree c.self.inside after refl refl refl c.self.invariant c.mark_all.ensures.like
    (subst (λ (r : Rows). AreFresh c.self.inside.base r after.nodes.slots) (sym time) c.mark_all.ensures.fresh) c.mark_all.ensures.len c.mark_all.ensures.capacity refl

pub returns : goal.returns
returns g c =
    let after : Inside g.row.S.Denot = record { base = c.self.inside.base; root = c.self.inside.root; nodes = c.mark_all.new.nodes; order = c.self.inside.order; time = c.try_extend_from_slice.new.self; tip = c.self.inside.tip } in
    let time : after.time.items ≡ c.args.rows.now = (rw c.unwrap.ensures at c.try_extend_from_slice.ensures.ok) ∙ ap (λ (r : Rows). r ++ c.args.rows.now) c.clear.ensures in
    marked_view c.self.inside after c.args.self.now c.args.rows.now refl refl refl time c.self.view_is c.self.invariant c.mark_all.ensures.like
