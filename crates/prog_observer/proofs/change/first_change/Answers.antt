use Rattle.std.proofs.Common.{◌∙◌, inl, inr, sym}
use Rattle.std.specs.Slice.Iter.{iter_rest}
use Rattle.prog_observer.proofs.Differing.{first_change-ended}
use Rattle.prog_observer.proofs.change.first_change.Goals as goal

pub returns : goal.returns
returns c =
    let rest = c.loop-old.old-iterator in
    sym (first_change-ended c.loop-old.frame (iter_rest rest.a) (iter_rest rest.b) (elim c.in-None.ensures.steps [
      | inl ended ↦ inl ended.1.0
      | inr ended ↦ inr ended.1.0
    ])) ∙ c.loop-old.invariant.rest
