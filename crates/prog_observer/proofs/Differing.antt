-- The first places at which rows differ.
use Rattle.std.proofs.Common.{◌≡◌, ℕ, zero, suc, ◌<◌, List, [], ◌∷◌, length, max, Bool, true, false, Option, Some, None, refl, sym, ap, ◌∙◌, ◌⊎◌, inl, inr, arith}
use Rattle.std.specs.Prelude.{nat_eq, not, slice_get}
use Rattle.std.specs.Option.{option_eq, option_map}
use Rattle.std.proofs.lemmas.Option.{none-some, same_Some}
use Rattle.roll_frame.specs.declared.row.Cell.{Cell}
use Rattle.roll_frame.specs.declared.row.Cell.TheVariants.{Word, Gone}
use Rattle.roll_frame.specs.Cells.{Rows, cell_eq}
use Rattle.roll_frame.specs.Claims.{place_of}
use Rattle.roll_frame.specs.Impls.Equal.{cell_eq-Decides}
use Rattle.prog_observer.specs.Changes.{first_change}

is_false : (b : Bool) → (b ≡ true → ⊥) → b ≡ false
is_false true h = absurd (h refl)
is_false false h = refl

is_not : (b : Bool) → not b ≡ true → b ≡ false
is_not true h = cc
is_not false h = refl

was_not : (b : Bool) → not b ≡ false → b ≡ true
was_not true h = refl
was_not false h = cc

-- a test of cells that answers so at each pair of variants
module _ (test : Cell → Cell → Bool) (words : (v w : ℕ) → test (Word v) (Word w) ≡ nat_eq v w)
    (word_gone : (v : ℕ) → test (Word v) Gone ≡ false)
    (gone_word : (w : ℕ) → test Gone (Word w) ≡ false) (both_gone : test Gone Gone ≡ true) where
  test_is : (c d : Cell) → test c d ≡ cell_eq c d
  test_is (Word v) (Word w) = words v w
  test_is (Word v) Gone = word_gone v
  test_is Gone (Word w) = gone_word w
  test_is Gone Gone = both_gone

  pub is_same : (a b : Option Cell) (r : Bool) → r ≡ not (option_eq test a b) → r ≡ false → a ≡ b
  is_same None None r is h = refl
  is_same None (Some d) r is h = let e : true ≡ false = sym is ∙ h in cc
  is_same (Some c) None r is h = let e : true ≡ false = sym is ∙ h in cc
  is_same (Some c) (Some d) r is h =
      ap Some ((cell_eq-Decides c d).0 (sym (test_is c d) ∙ was_not (test c d) (sym is ∙ h)))

  pub is_apart : (a b : Option Cell) (r : Bool) → r ≡ not (option_eq test a b) → r ≡ true → a ≡ b → ⊥
  is_apart None None r is h e = let k : false ≡ true = sym is ∙ h in cc
  is_apart None (Some d) r is h e = none-some d e
  is_apart (Some c) None r is h e = none-some c (sym e)
  is_apart (Some c) (Some d) r is h e =
      let same : cell_eq c d ≡ true = (cell_eq-Decides c d).1 (same_Some c d e) in
      let other : cell_eq c d ≡ false = sym (test_is c d) ∙ is_not (test c d) (sym is ∙ h) in
      cc

-- the cells before a place are the same, and at the place they differ
pub place_of-first : (k : ℕ) (row other : List Cell) → ((j : ℕ) → j < k → slice_get row j ≡ slice_get other j)
    → (slice_get row k ≡ slice_get other k → ⊥) → place_of row other ≡ Some (suc k)
place_of-first k [] [] same apart = absurd (apart refl)
place_of-first zero [] (d ∷ other) same apart = refl
place_of-first (suc k) [] (d ∷ other) same apart = absurd (none-some d (same 0 (omega arith)))
place_of-first zero (c ∷ row) [] same apart = refl
place_of-first (suc k) (c ∷ row) [] same apart = absurd (none-some c (sym (same 0 (omega arith))))
place_of-first zero (c ∷ row) (d ∷ other) same apart =
    let differ : cell_eq c d ≡ false = is_false (cell_eq c d) (λ h. apart (ap Some ((cell_eq-Decides c d).0 h))) in
    rw differ refl
place_of-first (suc k) (c ∷ row) (d ∷ other) same apart =
    let here : cell_eq c d ≡ true = (cell_eq-Decides c d).1 (same_Some c d (same 0 (omega arith))) in
    rw here (ap (option_map suc) (place_of-first k row other (λ j l. same (suc j) (omega arith)) apart))

-- all cells are the same
pub place_of-none : (row other : List Cell)
    → ((j : ℕ) → j < max (length row) (length other) → slice_get row j ≡ slice_get other j)
    → place_of row other ≡ None
place_of-none [] [] same = refl
place_of-none [] (d ∷ other) same = absurd (none-some d (same 0 (omega arith)))
place_of-none (c ∷ row) [] same = absurd (none-some c (sym (same 0 (omega arith))))
place_of-none (c ∷ row) (d ∷ other) same =
    let here : cell_eq c d ≡ true = (cell_eq-Decides c d).1 (same_Some c d (same 0 (omega arith))) in
    rw here (ap (option_map suc) (place_of-none row other (λ j l. same (suc j) (omega arith))))

-- where one of the lists of rows has ended, there is no change
pub first_change-ended : (frame : ℕ) (before after : Rows)
    → (length before ≡ 0) ⊎ (length after ≡ 0) → first_change frame before after ≡ None
first_change-ended frame [] after h = refl
first_change-ended frame (old ∷ before) [] h = refl
first_change-ended frame (old ∷ before) (new ∷ after) (inl h) = absurd (omega arith)
first_change-ended frame (old ∷ before) (new ∷ after) (inr h) = absurd (omega arith)
