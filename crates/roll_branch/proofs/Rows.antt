-- Rows and their changes.
use Rattle.std.proofs.Common.{◌≡◌, ℕ, zero, suc, ◌+◌, add-zero, add-one, inl, inr, subst, ◌<◌, ◌≤◌, List, [], ◌∷◌, ◌++◌, length, take, drop, get_or, true, false, refl, ap, sym, ◌∙◌, arith}
use Rattle.std.specs.Prelude.{filter, fold, cond, ◌⊎◌, slice_get, Some}
use Rattle.std.proofs.lemmas.Option.{slice_get_within, get_or_from_slice_get}
use Rattle.std.proofs.lemmas.Bool.{cases_lt}
use Rattle.std.proofs.lemmas.List.{length_push, take_more, drop_more, take_at, drop_at, length-take-le, append_assoc, append-nil, drop-drop}
use Rattle.std.proofs.lemmas.List.Elements.{filter_more, filter-append, All-push}
use Rattle.std.proofs.lemmas.List.Sums.{fold_push}
use Rattle.roll_frame.specs.Cells.{Rows}
use Rattle.roll_frame.specs.declared.row.Cell.{Cell}
use Rattle.roll_branch.specs.declared.change.Change.{Change}
use Rattle.roll_branch.specs.Changes.{cells_before, changed_by, is_of, row_of, rows_from, with_cell, with_change, AreAdded, AreFilled, IsPlaced}

-- the changes of a row among the first ones, and one more
pub changed_more : (changes : List Change) (row : ℕ) (cells : List Cell) (k : ℕ) (change : Change) → k < length changes → change ≡ get_or changes k change → is_of row change ≡ true → changed_by (take (k + 1) changes) row cells ≡ with_change (changed_by (take k changes) row cells) change
changed_more changes row cells k change below at of =
    ap (fold with_change cells) (filter_more (is_of row) changes k change below ∙ ap (λ c. filter (is_of row) (take k changes) ++ cond (is_of row c) (c ∷ []) []) (sym at) ∙ ap (λ b. filter (is_of row) (take k changes) ++ cond b (change ∷ []) []) of)
    ∙ fold_push with_change cells (filter (is_of row) (take k changes)) change

pub changed_same : (changes : List Change) (row : ℕ) (cells : List Cell) (k : ℕ) (change : Change) → k < length changes → change ≡ get_or changes k change → is_of row change ≡ false → changed_by (take (k + 1) changes) row cells ≡ changed_by (take k changes) row cells
changed_same changes row cells k change below at of =
    ap (fold with_change cells) (filter_more (is_of row) changes k change below ∙ ap (λ c. filter (is_of row) (take k changes) ++ cond (is_of row c) (c ∷ []) []) (sym at) ∙ ap (λ b. filter (is_of row) (take k changes) ++ cond b (change ∷ []) []) of ∙ append-nil _)

pub added_none : (row : ℕ) (cells : List Cell) (changes : List Change) → AreAdded row cells cells changes changes
added_none row cells changes =
    record { others = λ other differs. refl; made = λ none. ap (fold with_change cells) none; placed = λ all. all }

pub added_more : (row : ℕ) (before cells next : List Cell) (old new : List Change) (change : Change) → AreAdded row before cells old new → row_of change ≡ row → IsPlaced change → with_change cells change ≡ next → AreAdded row before next old (new ++ change ∷ [])
added_more row before cells next old new change a of placed to =
    record {
      others = λ other differs. filter-append (is_of other) new (change ∷ []) ∙ ap (λ b. filter (is_of other) new ++ cond b (change ∷ []) []) (not_of other differs) ∙ append-nil _ ∙ a.others other differs;
      made = λ none.
          ap (fold with_change before) (filter-append (is_of row) new (change ∷ []) ∙ ap (λ b. filter (is_of row) new ++ cond b (change ∷ []) []) is_its)
          ∙ fold_push with_change before (filter (is_of row) new) change
          ∙ ap (λ c. with_change c change) (a.made none)
          ∙ to;
      placed = λ all. All-push IsPlaced new change (a.placed all) placed;
    }
  where
    is_its : is_of row change ≡ true
    is_its = grind arith

    not_of : (other : ℕ) → (other ≡ row → ⊥) → is_of other change ≡ false
    not_of other differs = grind arith

module _ (cells before : List Cell) (place : ℕ) where
  -- the cells of a row up to a place, and from there those of the row before
  pub with_next : (cell d : Cell) → place < length cells → cell ≡ get_or cells place d → with_cell (take place cells ++ drop place before) place cell ≡ take (place + 1) cells ++ drop (place + 1) before
  with_next cell d below at =
      let long : length (take place cells) ≡ place = length-take-le place cells (omega arith) in
      let first : take place (take place cells ++ drop place before) ≡ take place cells = take_at (take place cells) (drop place before) place long in
      let rest : drop (place + 1) (take place cells ++ drop place before) ≡ drop (place + 1) before =
      sym (drop-drop 1 place (take place cells ++ drop place before)) ∙ ap (drop 1) (drop_at (take place cells) (drop place before) place long) ∙ drop-drop 1 place before in
      let more : take (place + 1) cells ≡ take place cells ++ cell ∷ [] = take_more cells place d below ∙ ap (λ c. take place cells ++ c ∷ []) (sym at) in
      ap (λ f. f ++ cell ∷ drop (place + 1) (take place cells ++ drop place before)) first
      ∙ ap (λ r. take place cells ++ cell ∷ r) rest
      ∙ sym (append_assoc (take place cells) (cell ∷ []) (drop (place + 1) before))
      ∙ ap (λ t. t ++ drop (place + 1) before) (sym more)

  pub kept_next : (cell d : Cell) → place < length cells → cell ≡ get_or cells place d → slice_get before place ≡ Some cell → take place cells ++ drop place before ≡ take (place + 1) cells ++ drop (place + 1) before
  kept_next cell d below at there =
      let more : take (place + 1) cells ≡ take place cells ++ cell ∷ [] = take_more cells place d below ∙ ap (λ c. take place cells ++ c ∷ []) (sym at) in
      ap (λ d. take place cells ++ d) (drop_more before place cell (slice_get_within before place cell there) ∙ ap (λ c. c ∷ drop (place + 1) before) (get_or_from_slice_get before place cell cell there))
      ∙ sym (append_assoc (take place cells) (cell ∷ []) (drop (place + 1) before))
      ∙ ap (λ t. t ++ drop (place + 1) before) (sym more)

pub length-rows_from : (changes : List Change) (from count : ℕ) → length (rows_from changes from count) ≡ count
length-rows_from changes from zero = refl
length-rows_from changes from (suc count) = length_push (rows_from changes from count) _ ∙ ap (λ n. n + 1) (length-rows_from changes from count) ∙ add-one count

-- rows further on
pub rows_from-append : (changes : List Change) (from first count : ℕ) → rows_from changes from (first + count) ≡ rows_from changes from first ++ rows_from changes (from + first) count
rows_from-append changes from first zero = ap (rows_from changes from) (add-zero first) ∙ sym (append-nil (rows_from changes from first))
rows_from-append changes from first (suc count) =
    let more : first + suc count ≡ suc (first + count) = omega arith in
    let here : from + (first + count) ≡ from + first + count = omega arith in
    ap (rows_from changes from) more
    ∙ ap (λ n. rows_from changes from (first + count) ++ cells_before changes (suc n) ∷ []) here
    ∙ ap (λ rows. rows ++ cells_before changes (suc (from + first + count)) ∷ []) (rows_from-append changes from first count)
    ∙ append_assoc (rows_from changes from first) (rows_from changes (from + first) count) (cells_before changes (suc (from + first + count)) ∷ [])

-- the changes of a row leave the rows before it
module _ (row : ℕ) (before cells : List Cell) (old new : List Change) (added : AreAdded row before cells old new) where
  pub same_before : (k : ℕ) → k ≤ row → cells_before new k ≡ cells_before old k
  same_before zero below = refl
  same_before (suc k) below =
      ap (fold with_change (cells_before new k)) (added.others k (omega arith))
      ∙ ap (λ c. changed_by old k c) (same_before k (omega arith))

  pub same_rows : (count : ℕ) → count ≤ row → rows_from new 0 count ≡ rows_from old 0 count
  same_rows zero below = refl
  same_rows (suc count) below =
      let here : 0 + count ≡ count = omega arith in
      ap (λ rows. rows ++ cells_before new (suc (0 + count)) ∷ []) (same_rows count (omega arith))
      ∙ ap (λ c. rows_from old 0 count ++ c ∷ []) (ap (λ n. cells_before new (suc n)) here ∙ same_before (suc count) (omega arith) ∙ ap (λ n. cells_before old (suc n)) (sym here))

  pub row_made : before ≡ cells_before old row → filter (is_of row) old ≡ [] → cells_before new (suc row) ≡ cells
  row_made is none = ap (changed_by new row) (same_before row (omega arith) ∙ sym is) ∙ added.made none

  pub rows_made : before ≡ cells_before old row → filter (is_of row) old ≡ [] → rows_from new 0 (row + 1) ≡ rows_from old 0 row ++ cells ∷ []
  rows_made is none =
      let here : 0 + row ≡ row = omega arith in
      ap (rows_from new 0) (add-one row)
      ∙ ap (λ rows. rows ++ cells_before new (suc (0 + row)) ∷ []) (same_rows row (omega arith))
      ∙ ap (λ c. rows_from old 0 row ++ c ∷ []) (ap (λ n. cells_before new (suc n)) here ∙ row_made is none)

  pub filled_more : cells_before new (suc row) ≡ cells → AreFilled old row → 1 ≤ length cells → AreFilled new (row + 1)
  filled_more made filled some k below = go (cases_lt k row)
    where
      go : (k < row) ⊎ (row ≤ k) → 1 ≤ length (cells_before new (suc k))
      go (inl l) = subst (λ (c : List Cell). 1 ≤ length c) (sym (same_before (suc k) (omega arith))) (filled k l)
      go (inr l) =
          let here : row ≡ k = omega arith in
          subst (λ (n : ℕ). 1 ≤ length (cells_before new (suc n))) here (subst (λ (c : List Cell). 1 ≤ length c) (sym made) some)

-- rows that are known to be some and others after these
pub rows_parted : (changes : List Change) (first rest : Rows) → rows_from changes 0 (length first + length rest) ≡ first ++ rest → (rows_from changes 0 (length first) ≡ first) × (rows_from changes (length first) (length rest) ≡ rest)
rows_parted changes first rest is =
    let m = length first in
    let zero_on : 0 + m ≡ m = omega arith in
    let both : rows_from changes 0 m ++ rows_from changes (0 + m) (length rest) ≡ first ++ rest = sym (rows_from-append changes 0 m (length rest)) ∙ is in
    let long : length (rows_from changes 0 m) ≡ m = length-rows_from changes 0 m in
    let here : rows_from changes 0 m ≡ first = sym (take_at (rows_from changes 0 m) (rows_from changes (0 + m) (length rest)) m long) ∙ ap (take m) both ∙ take_at first rest m refl in
    let on : rows_from changes (0 + m) (length rest) ≡ rest = sym (drop_at (rows_from changes 0 m) (rows_from changes (0 + m) (length rest)) m long) ∙ ap (drop m) both ∙ drop_at first rest m refl in
    (here, ap (λ n. rows_from changes n (length rest)) (sym zero_on) ∙ on)

-- the parts of the first rows
pub first_part : (changes : List Change) (first count : ℕ) → take first (rows_from changes 0 (first + count)) ≡ rows_from changes 0 first
first_part changes first count =
    ap (take first) (rows_from-append changes 0 first count)
    ∙ take_at (rows_from changes 0 first) (rows_from changes (0 + first) count) first (length-rows_from changes 0 first)

pub last_part : (changes : List Change) (first count : ℕ) → drop first (rows_from changes 0 (first + count)) ≡ rows_from changes first count
last_part changes first count =
    let zero_on : 0 + first ≡ first = omega arith in
    ap (drop first) (rows_from-append changes 0 first count)
    ∙ drop_at (rows_from changes 0 first) (rows_from changes (0 + first) count) first (length-rows_from changes 0 first)
    ∙ ap (λ n. rows_from changes n count) zero_on
