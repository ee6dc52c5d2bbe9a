use Rattle.std.proofs.Common.{w8, not, refl, sym, ap, ◌∙◌}
use Rattle.std.proofs.lemmas.Nat.Bits.{bit_at_set_same, bit_at_set_other, bit_at_clear_same}
use Rattle.roll_tree.specs.Marks.{bit_of}
use Rattle.roll_tree.proofs.Bytes.{same_options, cleared_other}
use Rattle.roll_tree.proofs.marks.marked.Goals as goal

pub returns-then-eq-clause-here : goal.returns-then-eq-clause-here
returns-then-eq-clause-here c =
    let same = sym (c.eq.ensures ∙ same_options _ (λ v w. refl) (λ v. refl) (λ w. refl) refl c.get.result c.get-2.result) ∙ c.if-eq.true in
    bit_at_clear_same w8 c.args.marks c.args.place c.requires
    ∙ sym (ap (λ b. bit_of (not b)) (rw (c.get.ensures, c.get-2.ensures) at same))

pub returns-else-eq-clause-here : goal.returns-else-eq-clause-here
returns-else-eq-clause-here c =
    let same = sym (c.eq.ensures ∙ same_options _ (λ v w. refl) (λ v. refl) (λ w. refl) refl c.get.result c.get-2.result) ∙ c.if-eq.false in
    bit_at_set_same w8 c.args.marks c.args.place c.requires
    ∙ sym (ap (λ b. bit_of (not b)) (rw (c.get.ensures, c.get-2.ensures) at same))

pub returns-then-eq-clause-others : goal.returns-then-eq-clause-others
returns-then-eq-clause-others c other apart = cleared_other c.args.marks c.args.place c.ranges.marks.fits c.requires other apart

pub returns-else-eq-clause-others : goal.returns-else-eq-clause-others
returns-else-eq-clause-others c other apart = bit_at_set_other w8 c.args.marks c.args.place c.requires other apart
