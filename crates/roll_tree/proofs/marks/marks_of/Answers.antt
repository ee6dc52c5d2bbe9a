use Rattle.std.proofs.Common.{◌≡◌, Bool, ℕ, inl, inr, arith, sym, ap, subst, ◌∙◌}
use Rattle.std.specs.Int.{bit_at}
use Rattle.std.proofs.lemmas.Bool.{cases_eq, cases_lt}
use Rattle.std.proofs.lemmas.Nat.Bits.{bit_at-zero}
use Rattle.roll_tree.specs.Marks.{differ_at, bit_of}
use Rattle.roll_tree.proofs.Bytes.{no_difference}
use Rattle.roll_tree.proofs.marks.marks_of.Goals as goal

pub loop-place-init : goal.loop-place-init
loop-place-init c = record { below = λ k h. absurd (omega arith); above = λ k h. bit_at-zero k }

pub loop-place-preserved : goal.loop-place-preserved
loop-place-preserved c = record {
  below = λ k h. elim (cases_eq k c.loop-place.place) [
    | inl same ↦ subst (λ (p : ℕ). bit_at c.marked-marks.result p ≡ bit_of (differ_at c.args.row.now c.args.there.now p)) (sym same) c.marked-marks.ensures.here
    | inr apart ↦ c.marked-marks.ensures.others k apart ∙ c.loop-place.invariant.below k (omega arith)
  ];
  above = λ k h. c.marked-marks.ensures.others k (λ same. absurd (omega arith)) ∙ c.loop-place.invariant.above k (omega arith);
}

pub returns : goal.returns
returns c k = elim (cases_lt k c.loop-place.place) [
  | inl low ↦ c.loop-place.invariant.below k low
  | inr high ↦
      let none = no_difference c.args.row.now c.args.there.now k (omega (arith, c.count.ensures.value, c.max-players.ensures)) (omega (arith, c.count-2.ensures.value, c.max-players.ensures)) in
      c.loop-place.invariant.above k high ∙ sym (ap (λ (b : Bool). bit_of b) none)
]
