-- What a player's input changes of the timeline's rows.
use Rattle.std.proofs.Common.{◌≡◌, ℕ, zero, suc, ◌+◌, ◌-◌, ◌<◌, List, [], ◌∷◌, drop, map, refl, ap, sym, subst, ◌∙◌, arith, true, false, inl, inr, eqb, Option, Some}
use Rattle.std.specs.Prelude.{◌⊎◌, slice_get, option_map}
use Rattle.std.proofs.lemmas.Bool.{cases_Bool, false≢true, eqb-true}
use Rattle.std.proofs.lemmas.Bool.Decides.{nat_tests}
use Rattle.roll_frame.specs.Cells.{Rows}
use Rattle.roll_frame.specs.Claims.{cell_in, cell_of_row}
use Rattle.roll_frame.specs.Inputs.{player_at}
use Rattle.roll_frame.specs.Timeline.{Player, cell_at, row_at}
use Rattle.roll_frame.specs.declared.row.Cell.{Cell}
use Rattle.roll_inputs.specs.Boards.{KeepsCells, cell_of, count_of}
use Rattle.roll_laws.proofs.Saved.{rows_from as rows_on, timeline_is}
use Rattle.roll_tree.specs.Marks.{AreSameBut}
use Rattle.roll_session.specs.Standing.{rows_from}
use Rattle.roll_session.proofs.Rows.{length-rows_from}

drop_rows : (ps : List Player) (k t n : ℕ) → drop k (rows_on ps t (k + n)) ≡ rows_on ps (t + k) n
drop_rows ps zero t n = let z : 0 + n ≡ n = omega arith in let y : t ≡ t + 0 = omega arith in ap (λ j. rows_on ps t j) z ∙ ap (λ j. rows_on ps j n) y
drop_rows ps (suc k) t n =
    let z : suc k + n ≡ suc (k + n) = omega arith in
    let y : suc t + k ≡ t + suc k = omega arith in
    ap (λ j. drop (suc k) (rows_on ps t j)) z ∙ drop_rows ps k (suc t) n ∙ ap (λ j. rows_on ps j n) y

-- row by row
pub rows_are : (ps : List Player) (from n : ℕ) → rows_from ps from n ≡ rows_on ps from n
rows_are ps from n =
    let z : 0 + from ≡ from = omega arith in
    ap (drop from) (timeline_is ps (from + n)) ∙ drop_rows ps from 0 n ∙ ap (λ j. rows_on ps j n) z

pub slice_get-map : {A B : Type 0} (f : A → B) (xs : List A) (k : ℕ) → slice_get (map f xs) k ≡ option_map f (slice_get xs k)
slice_get-map f [] k = refl
slice_get-map f (x ∷ xs) zero = refl
slice_get-map f (x ∷ xs) (suc k) = slice_get-map f xs k

row_on : (ps : List Player) (t n i : ℕ) → i < n → slice_get (rows_on ps t n) i ≡ Some (row_at ps (t + i))
row_on ps t zero i h = absurd (omega arith)
row_on ps t (suc n) zero h = let z : t ≡ t + 0 = omega arith in ap (λ j. Some (row_at ps j)) z
row_on ps t (suc n) (suc i) h = let z : suc t + i ≡ t + suc i = omega arith in row_on ps (suc t) n i (omega arith) ∙ ap (λ j. Some (row_at ps j)) z

-- a row of the timeline's rows
pub row_from : (ps : List Player) (from n i : ℕ) → i < n → slice_get (rows_from ps from n) i ≡ Some (row_at ps (from + i))
row_from ps from n i h = ap (λ (rows : Rows). slice_get rows i) (rows_are ps from n) ∙ row_on ps from n i h

pub player_next : (ps : List Player) (k : ℕ) → player_at ps (k + 1) ≡ slice_get ps k
player_next ps k =
    let z : eqb (k + 1) 0 ≡ false = grind (arith, nat_tests) in
    let y : k + 1 - 1 ≡ k = omega arith in
    rw (z, y) refl

-- a cell of the timeline's rows
cell_from : (ps : List Player) (from n i k : ℕ) → i < n → cell_in (rows_from ps from n) i k ≡ cell_of ps (k + 1) (from + i)
cell_from ps from n i k h =
    ap (λ (row : Option (List Cell)). cell_of_row row k) (row_from ps from n i h) ∙ slice_get-map (cell_at (from + i)) ps k ∙ ap (option_map (cell_at (from + i))) (sym (player_next ps k))

-- an input changes no cell of another player, and none of a frame whose word was confirmed
pub same_but : (old new : List Player) (p base n : ℕ) → KeepsCells old new p → AreSameBut p (count_of old p) base (rows_from old base n) (rows_from new base n)
same_but old new p base n keeps place k h early =
    let i : place < n = omega (arith, h, length-rows_from old base n) in
    cell_from new base n place k i ∙ go (cases_Bool (eqb (k + 1) p)) ∙ sym (cell_from old base n place k i)
  where
    go : (eqb (k + 1) p ≡ true) ⊎ (eqb (k + 1) p ≡ false) → cell_of new (k + 1) (base + place) ≡ cell_of old (k + 1) (base + place)
    go (inl e) =
        let is : k + 1 ≡ p = eqb-true (k + 1) p e in
        subst (λ (q : ℕ). cell_of new q (base + place) ≡ cell_of old q (base + place)) (sym is) (keeps.confirmed (base + place) (early is))
    go (inr e) = keeps.others (k + 1) (base + place) (λ is. absurd (false≢true (sym e ∙ eqb-same (k + 1) p is)))
      where
        eqb-same : (a b : ℕ) → a ≡ b → eqb a b ≡ true
        eqb-same a b h = grind (arith, nat_tests, h)
