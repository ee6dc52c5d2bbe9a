-- The marks of two rows, bit by bit.
use Rattle.std.proofs.Common.{◌≡◌, ◌≢◌, ◌⊎◌, ℕ, zero, suc, ◌+◌, ◌*◌, ◌%◌, ◌^◌, ◌<◌, ◌≤◌, List, [], ◌∷◌, length, Bool, true, false, Option, Some, None, refl, sym, ap, ◌∙◌, inl, inr, arith, bit_and, get_or, w8, nat_eq}
use Rattle.std.specs.Prelude.{slice_get}
use Rattle.std.specs.Int.{bit_at, bit_not}
use Rattle.std.specs.Option.{option_eq, option_and_then}
use Rattle.std.proofs.lemmas.Bool.{cases_eq, cases_lt, false≢true, not-false, not-true}
use Rattle.std.proofs.lemmas.Nat.Bits.{bit_at-zero, bit_at_clear_other, bit_at_above, bit_at_and, same_from_bits}
use Rattle.roll_frame.specs.declared.row.Cell.{Cell}
use Rattle.roll_frame.specs.declared.row.Cell.TheVariants.{Word, Gone}
use Rattle.std.proofs.lemmas.Option.{slice_get_past, slice_get-get_or}
use Rattle.roll_frame.specs.Cells.{Rows, cell_eq}
use Rattle.roll_frame.specs.Impls.Equal.{cell_eq-Decides}
use Rattle.roll_frame.specs.Claims.{cell_of_row, place_of}
use Rattle.roll_frame.proofs.Places.{place_of-same}
use Rattle.roll_tree.specs.Marks.{differ_at, differs, bit_of, AreMarks, AreSameBut}

-- a test that answers at each pair of variants as `cell_eq` does is the same of cells that may be missing
pub same_options : (test : Cell → Cell → Bool) → ((v w : _) → test (Word v) (Word w) ≡ nat_eq v w) → ((v : _) → test (Word v) Gone ≡ false) → ((w : _) → test Gone (Word w) ≡ false) → test Gone Gone ≡ true → (o p : Option Cell) → option_eq test o p ≡ option_eq cell_eq o p
same_options test words first second both None None = refl
same_options test words first second both None (Some d) = refl
same_options test words first second both (Some c) None = refl
same_options test words first second both (Some (Word v)) (Some (Word w)) = words v w
same_options test words first second both (Some (Word v)) (Some Gone) = first v
same_options test words first second both (Some Gone) (Some (Word w)) = second w
same_options test words first second both (Some Gone) (Some Gone) = both

-- clearing one bit of a byte leaves the others
pub cleared_other : (marks place : ℕ) → marks < 2 ^ 8 → place < 8 → (other : ℕ) → other ≢ place → bit_at (bit_and marks (bit_not w8 (1 * 2 ^ place % 2 ^ 8))) other ≡ bit_at marks other
cleared_other marks place byte within other apart = go (cases_lt other 8)
  where
    go : (other < 8) ⊎ (8 ≤ other) → bit_at (bit_and marks (bit_not w8 (1 * 2 ^ place % 2 ^ 8))) other ≡ bit_at marks other
    go (inl low) = bit_at_clear_other w8 marks place within other low apart
    go (inr high) =
        let none = bit_at_above marks 8 other byte high in
        bit_at_and marks (bit_not w8 (1 * 2 ^ place % 2 ^ 8)) other ∙ omega (arith, none)

-- past the ends of two rows nothing differs
pub no_difference : (row there : List Cell) (place : ℕ) → length row ≤ place → length there ≤ place → differ_at row there place ≡ false
no_difference row there place past also = rw (slice_get_past row place past, slice_get_past there place also) refl

bit_is : (b : Bool) → bit_of b ≡ 0 → b ≡ false
bit_is true e = absurd (omega (arith, e))
bit_is false e = refl

bit_set : (b : Bool) → bit_of b ≡ 1 → b ≡ true
bit_set true e = refl
bit_set false e = absurd (omega (arith, e))

unmarked : (there : Option (List Cell)) (row : List Cell) (marks place : ℕ) → AreMarks there row marks → bit_at marks place ≡ 0 → differs there row place ≡ false
unmarked there row marks place are e = bit_is (differs there row place) (sym (are place) ∙ e)

-- the first place where rows differ
least_at : (row there : List Cell) (place : ℕ) → differ_at row there place ≡ true → ((k : ℕ) → k < place → differ_at row there k ≡ false) → place_of row there ≡ Some (suc place)
least_at [] [] place here before = absurd (false≢true here)
least_at [] (d ∷ ds) zero here before = refl
least_at [] (d ∷ ds) (suc place) here before = absurd (false≢true (sym (before 0 (omega arith))))
least_at (c ∷ cs) [] zero here before = refl
least_at (c ∷ cs) [] (suc place) here before = absurd (false≢true (sym (before 0 (omega arith))))
least_at (c ∷ cs) (d ∷ ds) zero here before = rw (not-true (cell_eq c d) here) refl
least_at (c ∷ cs) (d ∷ ds) (suc place) here before =
    rw (not-false (cell_eq c d) (before 0 (omega arith)), least_at cs ds place here (λ k h. before (suc k) (omega (arith, h)))) refl

-- rows that differ nowhere are the same
none_at : (row there : List Cell) → ((k : ℕ) → differ_at row there k ≡ false) → row ≡ there
none_at [] [] all = refl
none_at [] (d ∷ ds) all = absurd (false≢true (sym (all 0)))
none_at (c ∷ cs) [] all = absurd (false≢true (sym (all 0)))
none_at (c ∷ cs) (d ∷ ds) all =
    let first = (cell_eq-Decides c d).0 (not-false (cell_eq c d) (all 0)) in
    let rest = none_at cs ds (λ k. all (suc k)) in
    rw (first, rest) refl

never_at : (row : List Cell) (k : ℕ) → differ_at row row k ≡ false
never_at [] k = refl
never_at (c ∷ cs) zero = rw ((cell_eq-Decides c c).1 refl) refl
never_at (c ∷ cs) (suc k) = never_at cs k

-- without marks the row is the timeline's, and with none but those of that row there are no marks
pub no_marks : (row there : List Cell) → AreMarks (Some there) row 0 → row ≡ there
no_marks row there are = none_at row there (λ k. unmarked (Some there) row 0 k are (bit_at-zero k))

pub all_right : (row : List Cell) (marks : ℕ) → AreMarks (Some row) row marks → marks ≡ 0
all_right row marks are = same_from_bits marks 0 (λ k. are k ∙ ap (λ (b : Bool). bit_of b) (never_at row k) ∙ sym (bit_at-zero k))

-- the least marked player
pub least_none : (there : Option (List Cell)) (row : List Cell) → AreMarks there row 0 → option_and_then (place_of row) there ≡ None
least_none None row are = refl
least_none (Some there) row are = ap (place_of row) (sym (no_marks row there are)) ∙ place_of-same row

pub least_some : (there : Option (List Cell)) (row : List Cell) (marks place : ℕ) → AreMarks there row marks → bit_at marks place ≡ 1 → ((k : ℕ) → k < place → bit_at marks k ≡ 0) → option_and_then (place_of row) there ≡ Some (place + 1)
least_some None row marks place are here before = absurd (omega (arith, here, are place))
least_some (Some there) row marks place are here before =
    least_at row there place (bit_set (differ_at row there place) (sym (are place) ∙ here)) (λ k h. unmarked (Some there) row marks k are (before k h))
    ∙ ap Some (omega arith)

same_cell : (o p : Option (List Cell)) (there other row : List Cell) (k : ℕ) → o ≡ Some there → p ≡ Some other → cell_of_row p k ≡ cell_of_row o k → differs o row k ≡ differs p row k
same_cell o p there other row k e f same =
    let cells : slice_get other k ≡ slice_get there k = sym (ap (λ (x : Option (List Cell)). cell_of_row x k) f) ∙ same ∙ ap (λ (x : Option (List Cell)). cell_of_row x k) e in
    rw (e, f, cells) refl

-- the marks of a row in a frame that was known, where the timeline has changed
module _ (player from base : ℕ) (time rows : Rows) (place : ℕ) (row : List Cell) (marks : ℕ) (same : AreSameBut player from base time rows) (known : place < length time) (long : length time ≤ length rows) (are : AreMarks (slice_get time place) row marks) where
  stays_at : (k : ℕ) → (k + 1 ≡ player → base + place < from) → bit_at marks k ≡ bit_of (differs (slice_get rows place) row k)
  stays_at k but =
      are k
      ∙ ap (λ (b : Bool). bit_of b) (same_cell (slice_get time place) (slice_get rows place) (get_or time place []) (get_or rows place []) row k (slice_get-get_or time place [] known) (slice_get-get_or rows place [] (omega (arith, known, long))) (same place k known but))

  -- before the frame of the change all stay
  pub before_change : base + place < from → AreMarks (slice_get rows place) row marks
  before_change early k = stays_at k (λ mine. early)

  -- and from it on one is computed afresh
  pub after_change : (k result : ℕ) (there : List Cell) → player ≡ k + 1 → slice_get rows place ≡ Some there → bit_at result k ≡ bit_of (differ_at row there k) → ((other : ℕ) → other ≢ k → bit_at result other ≡ bit_at marks other) → AreMarks (slice_get rows place) row result
  after_change k result there is found here others place' = elim (cases_eq place' k) [
    | inl e ↦ rw (found, e) here
    | inr apart ↦ others place' apart ∙ stays_at place' (λ mine. absurd (apart (omega arith)))
  ]
