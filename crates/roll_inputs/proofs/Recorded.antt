-- Rows that are packed, row by row and cell by cell.
use Rattle.std.proofs.Common.{◌≡◌, ◌∙◌, ℕ, zero, suc, ◌+◌, ◌*◌, ◌/◌, ◌%◌, ◌^◌, ◌<◌, ◌≤◌, List, [], ◌∷◌, ◌++◌, length, get_or, take, drop, map, Some, refl, ap, sym, length-append, min, arith}
use Rattle.std.specs.Prelude.{slice_get, slice_index_or, vec_capacity}
use Rattle.std.proofs.Math.Nat.{div-div-eq-div-mul, pow-succ', add-mul, div-mul-le_self, mul-le-mul_right, zero-mul}
use Rattle.std.proofs.lemmas.List.{drop-append-le, drop-drop, get_or-drop, length-drop, length-map, take_more}
use Rattle.std.proofs.lemmas.Option.{get_or_from_slice_get, slice_get_within}
use Rattle.roll_frame.specs.declared.row.Cell.{Cell}
use Rattle.roll_frame.specs.declared.row.Cell.TheVariants.{Word, Gone}
use Rattle.roll_frame.specs.Packed.{cell_of, cells_of, bits_of}
use Rattle.roll_frame.specs.Words.{bit_of, word_of}
use Rattle.roll_inputs.specs.Recorded.{IsRecord, Recorded, recorded, rows_of}
use Rattle.roll_inputs.specs.declared.record.Record.TheInside.{Inside}

length-rows_of : (n : ℕ) (masks words : List ℕ) → length (rows_of n masks words) ≡ length masks
length-rows_of n [] words = refl
length-rows_of n (gone ∷ masks) words = ap suc (length-rows_of n masks (drop n words))

length-cells_of : (n gone : ℕ) (words : List ℕ) → n ≤ length words → length (cells_of n gone words) ≡ n
length-cells_of zero gone words l = refl
length-cells_of (suc n) gone [] l = absurd (omega arith)
length-cells_of (suc n) gone (word ∷ words) l = ap suc (length-cells_of n (gone / 2) words (omega arith))

next : (t n : ℕ) → suc t * n ≡ n + t * n
next t n = omega arith

-- the row of a frame
row_there : (n : ℕ) (masks words : List ℕ) (t d : ℕ) → t < length masks → slice_get (rows_of n masks words) t ≡ Some (cells_of n (get_or masks t d) (drop (t * n) words))
row_there n [] words t d l = absurd (omega arith)
row_there n (gone ∷ masks) words zero d l = ap (λ k. Some (cells_of n gone (drop k words))) (sym (zero-mul n))
row_there n (gone ∷ masks) words (suc t) d l =
    row_there n masks (drop n words) t d (omega arith)
    ∙ ap (λ ws. Some (cells_of n (get_or masks t d) ws)) (drop-drop (t * n) n words ∙ ap (λ k. drop k words) (sym (next t n)))

-- the cell at a place of a row
cell_there : (n gone : ℕ) (words : List ℕ) (i d : ℕ) → i < n → n ≤ length words → slice_get (cells_of n gone words) i ≡ Some (cell_of (gone / 2 ^ i) (get_or words i d))
cell_there zero gone words i d l h = absurd (omega arith)
cell_there (suc n) gone [] i d l h = absurd (omega arith)
cell_there (suc n) gone (w ∷ ws) zero d l h = ap (λ g. Some (cell_of g w)) (whole gone)
  where
    whole : (g : ℕ) → g ≡ g / 1
    whole g = omega arith
cell_there (suc n) gone (w ∷ ws) (suc i) d l h =
    cell_there n (gone / 2) ws i d (omega arith) (omega arith)
    ∙ ap (λ g. Some (cell_of g (get_or ws i d))) (div-div-eq-div-mul gone 2 (2 ^ i) ∙ ap (λ k. gone / k) (sym (pow-succ' 2 i)))

-- a place within the words
place_within : (t m i n : ℕ) → t < m → i < n → t * n + i < m * n
place_within t m i n l h =
    let whole : (t + 1) * n ≤ m * n = mul-le-mul_right n (omega arith) in
    omega arith

-- the words of a row and of those behind it
rest_within : (t m n : ℕ) (words : List ℕ) → length words ≡ m * n → t < m → n ≤ length (drop (t * n) words)
rest_within t m n words e l =
    let whole : (t + 1) * n ≤ m * n = mul-le-mul_right n (omega arith) in
    omega (arith, length-drop (t * n) words)

-- a row that is added
cells_front : (n gone : ℕ) (words more : List ℕ) → n ≤ length words → cells_of n gone (words ++ more) ≡ cells_of n gone words
cells_front zero gone words more l = refl
cells_front (suc n) gone [] more l = absurd (omega arith)
cells_front (suc n) gone (w ∷ ws) more l = ap (λ cs. cell_of gone w ∷ cs) (cells_front n (gone / 2) ws more (omega arith))

rows_more : (n : ℕ) (masks words : List ℕ) (gone : ℕ) (more : List ℕ) → length words ≡ length masks * n → rows_of n (masks ++ gone ∷ []) (words ++ more) ≡ rows_of n masks words ++ cells_of n gone more ∷ []
rows_more n [] [] gone more e = refl
rows_more n [] (w ∷ ws) gone more e = absurd (omega arith)
rows_more n (mask ∷ masks) words gone more e =
    let whole : length words ≡ n + length masks * n = e ∙ next (length masks) n in
    let first : n ≤ length words = omega arith in
    let rest : length (drop n words) ≡ length masks * n = omega (arith, length-drop n words) in
    rw (cells_front n mask words more first, drop-append-le n words more first)
    (ap (λ rows. cells_of n mask words ∷ rows) (rows_more n masks (drop n words) gone more rest))

-- the cells of the words and bits of cells
cells_back : (cells : List Cell) → cells_of (length cells) (bits_of cells) (map word_of cells) ≡ cells
cells_back [] = refl
cells_back (cell ∷ cells) = λ i. first cell (bits_of cells) i ∷ (ap (λ g. cells_of (length cells) g (map word_of cells)) (half cell (bits_of cells)) ∙ cells_back cells) i
  where
    first : (c : Cell) (g : ℕ) → cell_of (bit_of c + 2 * g) (word_of c) ≡ c
    first (Word w) g = rw (even g) refl
      where
        even : (g : ℕ) → (0 + 2 * g) % 2 ≡ 0
        even g = omega arith
    first Gone g = rw (odd g) refl
      where
        odd : (g : ℕ) → (1 + 2 * g) % 2 ≡ 1
        odd g = omega arith

    half : (c : Cell) (g : ℕ) → (bit_of c + 2 * g) / 2 ≡ g
    half (Word w) g = omega arith
    half Gone g = omega arith

-- what is seen of a record, in its fields
pub players_seen : (r : Inside) (seen : Recorded) → recorded r ≡ seen → r.players ≡ seen.players
players_seen r seen e = ap (λ (k : Recorded). k.players) e

pub length_seen : (r : Inside) (seen : Recorded) → recorded r ≡ seen → length r.gone.items ≡ length seen.rows
length_seen r seen e = sym (length-rows_of r.players r.gone.items r.words.items) ∙ ap (λ (k : Recorded). length k.rows) e

pub room_seen : (r : Inside) (seen : Recorded) → recorded r ≡ seen → min (vec_capacity r.gone) (vec_capacity r.words / r.players) ≡ seen.room
room_seen r seen e = ap (λ (k : Recorded). k.room) e

-- the row of a frame, and the cell at a place of it
row_seen : (r : Inside) (seen : Recorded) (t d : ℕ) → recorded r ≡ seen → t < length r.gone.items → slice_get seen.rows t ≡ Some (cells_of r.players (get_or r.gone.items t d) (drop (t * r.players) r.words.items))
row_seen r seen t d e l = ap (λ (k : Recorded). slice_get k.rows t) (sym e) ∙ row_there r.players r.gone.items r.words.items t d l

pub cell_seen : (r : Inside) (seen : Recorded) (t i gone d : ℕ) → IsRecord r → recorded r ≡ seen → t < length seen.rows → i < seen.players → gone ≡ get_or r.gone.items t gone
    → slice_get (slice_index_or seen.rows t []) i ≡ Some (cell_of (gone / 2 ^ i) (get_or r.words.items (t * r.players + i) d))
cell_seen r seen t i gone d is e within few mask =
    let l : t < length r.gone.items = omega (arith, length_seen r seen e) in
    let h : i < r.players = omega (arith, players_seen r seen e) in
    let words = drop (t * r.players) r.words.items in
    ap (λ (cells : List Cell). slice_get cells i) (get_or_from_slice_get seen.rows t _ [] (row_seen r seen t gone e l))
    ∙ (cell_there r.players (get_or r.gone.items t gone) words i d h (rest_within t (length r.gone.items) r.players r.words.items is.full l)
    ∙ (ap (λ g. Some (cell_of (g / 2 ^ i) (get_or words i d))) (sym mask)
    ∙ ap (λ w. Some (cell_of (gone / 2 ^ i) w)) (get_or-drop (t * r.players) r.words.items i d)))

-- a word of a row is there
pub word_within : (r : Inside) (seen : Recorded) (t i : ℕ) → IsRecord r → recorded r ≡ seen → t < length seen.rows → i < seen.players → t * r.players + i < length r.words.items
word_within r seen t i is e within few =
    let there = place_within t (length r.gone.items) i r.players (omega (arith, length_seen r seen e)) (omega (arith, players_seen r seen e)) in
    omega (arith, there, is.full)

-- a row has a cell for each player
pub length_row : (r : Inside) (seen : Recorded) (t : ℕ) → IsRecord r → recorded r ≡ seen → t < length seen.rows → length (slice_index_or seen.rows t []) ≡ r.players
length_row r seen t is e within =
    let l : t < length r.gone.items = omega (arith, length_seen r seen e) in
    ap (λ (cells : List Cell). length cells) (get_or_from_slice_get seen.rows t _ [] (row_seen r seen t 0 e l))
    ∙ length-cells_of r.players (get_or r.gone.items t 0) (drop (t * r.players) r.words.items) (rest_within t (length r.gone.items) r.players r.words.items is.full l)

-- one cell more of a row
pub take_next : (cells : List Cell) (i : ℕ) (cell : Cell) → slice_get cells i ≡ Some cell → take (i + 1) cells ≡ take i cells ++ cell ∷ []
take_next cells i cell e =
    take_more cells i cell (slice_get_within cells i cell e)
    ∙ ap (λ c. take i cells ++ c ∷ []) (get_or_from_slice_get cells i cell cell e)

-- room for rows is room for their words
pub words_room : (r : Inside) (seen : Recorded) (k : ℕ) → IsRecord r → recorded r ≡ seen → length seen.rows + k ≤ seen.room → length r.words.items + k * r.players ≤ vec_capacity r.words
words_room r seen k is e room =
    let fits : length r.gone.items + k ≤ vec_capacity r.words / r.players = omega (arith, length_seen r seen e, room_seen r seen e) in
    let most : (length r.gone.items + k) * r.players ≤ (vec_capacity r.words / r.players) * r.players = mul-le-mul_right r.players fits in
    let spread : (length r.gone.items + k) * r.players ≡ length r.gone.items * r.players + k * r.players = add-mul (length r.gone.items) k r.players in
    omega (arith, div-mul-le_self (vec_capacity r.words) r.players, is.full)

-- a record with one row more
pub row_added : (r : Inside) (cells : List Cell) → IsRecord r → length cells ≡ r.players → rows_of r.players (r.gone.items ++ bits_of cells ∷ []) (r.words.items ++ map word_of cells) ≡ rows_of r.players r.gone.items r.words.items ++ cells ∷ []
row_added r cells is wide =
    rows_more r.players r.gone.items r.words.items (bits_of cells) (map word_of cells) is.full
    ∙ ap (λ row. rows_of r.players r.gone.items r.words.items ++ row ∷ []) (ap (λ n. cells_of n (bits_of cells) (map word_of cells)) (sym wide) ∙ cells_back cells)

pub still_full : (r : Inside) (gone : ℕ) (cells : List Cell) → IsRecord r → length cells ≡ r.players → length (r.words.items ++ map word_of cells) ≡ length (r.gone.items ++ gone ∷ []) * r.players
still_full r gone cells is wide =
    let more : length (r.gone.items ++ gone ∷ []) ≡ suc (length r.gone.items) = omega (arith, length-append r.gone.items (gone ∷ [])) in
    let spread = ap (λ k. k * r.players) more ∙ next (length r.gone.items) r.players in
    omega (arith, length-append r.words.items (map word_of cells), length-map cells word_of, is.full)
