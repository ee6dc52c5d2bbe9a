-- Items that were popped, and aren't applied.
use Rattle.std.proofs.Common.{◌≡◌, ℕ, suc, ◌+◌, ◌-◌, ◌<◌, ◌≤◌, List, [], ◌∷◌, ◌++◌, length, take, drop, get_or, sym, ap, ◌∙◌, append_assoc, append-nil, length-append, drop-cons, arith, add-one, Option, Some, None, IfSome, IfNone}
use Rattle.std.specs.Option.{option_to_list}
use Rattle.std.proofs.Math.Seq.{take-append_seam}
use Rattle.roll_link.specs.Linked.{but_waiting}
use Rattle.roll_link.specs.declared.remote.Remote.{Remote}

-- the last items of what was popped wait, and the others are applied
pub record AreApplied (popped applied waiting : List Remote) : Type 0 where
  pub applied_are : but_waiting popped waiting ≡ applied
  pub whole : but_waiting popped waiting ++ waiting ≡ popped

pub are_applied : (popped applied waiting : List Remote) → applied ++ waiting ≡ popped → AreApplied popped applied waiting
are_applied popped applied waiting whole =
    let count : length popped - length waiting ≡ length applied = omega (arith, ap length whole, length-append applied waiting) in
    let same : but_waiting popped waiting ≡ applied = (λ i. take (count i) (sym whole i)) ∙ take-append_seam applied waiting in record {
      applied_are = same;
      whole = ap (λ l. l ++ waiting) same ∙ whole;
    }

-- the next of them is applied
pub next_applied : (popped applied waiting rest : List Remote) (item : Remote) → applied ++ waiting ≡ popped → waiting ≡ item ∷ rest → AreApplied popped (applied ++ item ∷ []) rest
next_applied popped applied waiting rest item whole next = are_applied popped (applied ++ item ∷ []) rest (append_assoc applied (item ∷ []) rest ∙ ap (λ l. applied ++ l) (sym next) ∙ whole)

-- more were popped where none waited, and the next of these, if there is one, is applied
pub refilled : (popped popped' applied run rest : List Remote) (next : Option Remote) → applied ++ [] ≡ popped → popped' ≡ popped ++ run → IfSome next (λ item. run ≡ item ∷ rest) → IfNone next ((run ≡ []) × (rest ≡ []))
    → AreApplied popped' (applied ++ option_to_list next) rest
refilled popped popped' applied run rest None whole more some none =
    are_applied popped' (applied ++ []) rest (append_assoc applied [] rest ∙ ap (λ l. applied ++ l) (none.1 ∙ sym none.0) ∙ ap (λ l. l ++ run) (sym (append-nil applied) ∙ whole) ∙ sym more)
refilled popped popped' applied run rest (Some item) whole more some none =
    are_applied popped' (applied ++ item ∷ []) rest (append_assoc applied (item ∷ []) rest ∙ ap (λ l. applied ++ l) (sym some) ∙ ap (λ l. l ++ run) (sym (append-nil applied) ∙ whole) ∙ sym more)

-- a part of a list begins with the item at its place
pub part_next : (items : List Remote) (from to : ℕ) (d : Remote) → from < to → to ≤ length items → take (to - from) (drop from items) ≡ get_or items from d ∷ take (to - (from + 1)) (drop (from + 1) items)
part_next items from to d lt le =
    let count : to - from ≡ suc (to - (from + 1)) = omega arith in
    let more : suc from ≡ from + 1 = omega arith in
    (λ i. take (count i) (drop-cons items from d (omega arith) i)) ∙ ap (λ k. get_or items from d ∷ take (to - (from + 1)) (drop k items)) more
