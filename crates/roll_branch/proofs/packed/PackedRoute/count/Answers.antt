use Rattle.std.proofs.Common.{sym, ◌∙◌, ap}
use Rattle.roll_branch.specs.Packed.{changes_of}
use Rattle.roll_branch.proofs.Rows.{length-rows_from}
use Rattle.roll_branch.proofs.packed.PackedRoute.count.Goals as goal

pub returns : goal.returns
returns c =
    let p = c.self.inside.packed.value in
    rw (← c.self.view_is) (c.from.ensures ∙ ap (λ q. q.run) c.deref-packed.ensures ∙ sym (length-rows_from (changes_of p.changes) p.path p.run))
