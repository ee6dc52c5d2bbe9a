-- The least place where two lists of rows differ.
use Rattle.std.proofs.Common.{◌≡◌, ℕ, zero, suc, ◌+◌, ◌≤◌, List, [], ◌∷◌, ◌++◌, length, take, true, Option, Some, None, refl, ap, ◌∙◌, arith}
use Rattle.std.specs.Prelude.{option_map, slice_get}
use Rattle.std.specs.Option.{option_map_or, option_and_then, option_or}
use Rattle.roll_frame.specs.declared.row.Cell.{Cell}
use Rattle.roll_frame.specs.Cells.{Rows, cell_eq}
use Rattle.roll_frame.specs.Impls.Equal.{cell_eq-Decides}
use Rattle.roll_frame.specs.Claims.{place_of, least_place}

-- a row and itself differ nowhere
pub place_of-same : (row : List Cell) → place_of row row ≡ None
place_of-same [] = refl
place_of-same (c ∷ row) = let same : cell_eq c c ≡ true = (cell_eq-Decides c c).1 refl in rw (same, place_of-same row) refl

-- rows behind the same rows differ where they do without these
pub least_place-behind : (front rows others : Rows) (t : ℕ) → least_place t (front ++ rows) (front ++ others) ≡ least_place (t + length front) rows others
least_place-behind [] rows others t = ap (λ n. least_place n rows others) (omega arith)
least_place-behind (row ∷ front) rows others t =
    let next : suc t + length front ≡ t + suc (length front) = omega arith in
    ap (λ o. option_map_or (λ p. Some (t, p)) o (least_place (suc t) (front ++ rows) (front ++ others))) (place_of-same row)
    ∙ least_place-behind front rows others (suc t) ∙ ap (λ n. least_place n rows others) next

-- of the others only so many count as there are rows
pub least_place-take : (t n : ℕ) (rows others : Rows) → length rows ≤ n → least_place t rows others ≡ least_place t rows (take n others)
least_place-take t zero [] others l = refl
least_place-take t (suc n) [] [] l = refl
least_place-take t (suc n) [] (other ∷ others) l = refl
least_place-take t zero (row ∷ rows) others l = absurd (omega arith)
least_place-take t (suc n) (row ∷ rows) [] l = refl
least_place-take t (suc n) (row ∷ rows) (other ∷ others) l = ap (option_map_or (λ p. Some (t, p)) (place_of row other)) (least_place-take (suc t) n rows others (omega arith))

abbrev pub in_frame : ℕ → Option ℕ → Option (ℕ × ℕ)
in_frame frame player = option_map (λ p. (frame, p)) player

-- of one row further: that of those before, or else the row's
pub least_place-push : (t : ℕ) (rows : Rows) (row : List Cell) (others : Rows) → least_place t (rows ++ row ∷ []) others ≡ option_or (least_place t rows others) (in_frame (t + length rows) (option_and_then (place_of row) (slice_get others (length rows))))
least_place-push t [] row [] = refl
least_place-push t [] row (there ∷ others) = let same : t ≡ t + 0 = omega arith in one (place_of row there) ∙ ap (λ (n : ℕ). in_frame n (place_of row there)) same
  where
    one : (o : Option ℕ) → option_map_or (λ p. Some (t, p)) o None ≡ in_frame t o
    one None = refl
    one (Some p) = refl
least_place-push t (first ∷ rows) row [] = refl
least_place-push t (first ∷ rows) row (there ∷ others) = go (place_of first there) (least_place-push (suc t) rows row others)
  where
    go : (o : Option ℕ) → least_place (suc t) (rows ++ row ∷ []) others ≡ option_or (least_place (suc t) rows others) (in_frame (suc t + length rows) (option_and_then (place_of row) (slice_get others (length rows))))
        → option_map_or (λ p. Some (t, p)) o (least_place (suc t) (rows ++ row ∷ []) others) ≡ option_or (option_map_or (λ p. Some (t, p)) o (least_place (suc t) rows others)) (in_frame (t + length (first ∷ rows)) (option_and_then (place_of row) (slice_get others (length rows))))
    go None ih =
        let more : suc t + length rows ≡ t + length (first ∷ rows) = omega arith in
        ih
        ∙ ap (λ (n : ℕ). option_or (least_place (suc t) rows others) (in_frame n (option_and_then (place_of row) (slice_get others (length rows))))) more
    go (Some p) ih = refl
