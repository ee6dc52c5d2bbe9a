-- What is known of a player's cells, and possible paths as facts.
use Rattle.std.proofs.Common.{◌≡◌, ℕ, zero, suc, ◌+◌, ◌<◌, ◌≤◌, List, [], ◌∷◌, length, get_or, refl, sym, Bool, true, false, arith, ltb, take, subst, inl, inr}
use Rattle.std.specs.Prelude.{◌⊎◌, not, ◌||◌}
use Rattle.std.proofs.lemmas.Bool.{false≢true, and_parts, and_from, ltb-true, ltb-false, lt-ltb, le-ltb, or_parts, or_left, or_right}
use Rattle.roll_frame.specs.Cells.{cell_eq, Rows}
use Rattle.roll_frame.specs.Impls.Equal.{cell_eq-Decides}
use Rattle.roll_frame.specs.Core.{is_known, cell_possible, row_possible, possible_from}
use Rattle.roll_frame.specs.Timeline.{Player, predicted, cell_at, row_at}
use Rattle.roll_frame.specs.declared.row.Cell.{Cell}
use Rattle.roll_frame.specs.declared.row.Cell.TheVariants.{Word, Gone}

pub cell_confirmed : (t : ℕ) (p : Player) → t < length p.words → cell_at t p ≡ Word (get_or p.words t 0)
cell_confirmed t p h = rw (lt-ltb t (length p.words) h) refl

pub cell_gone : (t : ℕ) (p : Player) → length p.words ≤ t → p.gone ≡ true → cell_at t p ≡ Gone
cell_gone t p h g = rw (le-ltb t (length p.words) h, g) refl

pub cell_predicted : (t : ℕ) (p : Player) → length p.words ≤ t → p.gone ≡ false → cell_at t p ≡ Word (predicted p)
cell_predicted t p h g = rw (le-ltb t (length p.words) h, g) refl

-- a known cell is confirmed, or of a player who is gone
pub known_cases : (t : ℕ) (p : Player) → is_known t p ≡ true → (t < length p.words) ⊎ ((length p.words ≤ t) × (p.gone ≡ true))
known_cases t p h = go (ltb t (length p.words)) refl
  where
    go : (b : Bool) → ltb t (length p.words) ≡ b → (t < length p.words) ⊎ ((length p.words ≤ t) × (p.gone ≡ true))
    go true e = inl (ltb-true t (length p.words) e)
    go false e = inr (ltb-false t (length p.words) e, rw e at h)

pub unknown : (t : ℕ) (p : Player) → is_known t p ≡ false → (length p.words ≤ t) × (p.gone ≡ false)
unknown t p h = let b = or_parts (ltb t (length p.words)) p.gone h in (ltb-false t (length p.words) b.0, b.1)

pub known_confirmed : (t : ℕ) (p : Player) → t < length p.words → is_known t p ≡ true
known_confirmed t p h = or_left (ltb t (length p.words)) p.gone (lt-ltb t (length p.words) h)

pub known_gone : (t : ℕ) (p : Player) → p.gone ≡ true → is_known t p ≡ true
known_gone t p h = or_right (ltb t (length p.words)) p.gone h

pub implied : (k e : Bool) → (not k || e) ≡ true → k ≡ true → e ≡ true
implied true e h i = h
implied false e h i = absurd (false≢true i)

pub implies : (k e : Bool) → (k ≡ true → e ≡ true) → (not k || e) ≡ true
implies true e h = h refl
implies false e h = refl

-- a row, and the rows from frame t on, as the timeline's wherever they are known
abbrev pub RowFits : ℕ → List Player → List Cell → Type 0
RowFits t [] [] = Unit {0}
RowFits t [] (c ∷ cs) = ⊥
RowFits t (p ∷ ps) [] = ⊥
RowFits t (p ∷ ps) (c ∷ cs) = (is_known t p ≡ true → c ≡ cell_at t p) × RowFits t ps cs

abbrev pub Fits : ℕ → List Player → Rows → Type 0
Fits t ps [] = Unit {0}
Fits t ps (row ∷ rows) = RowFits t ps row × Fits (suc t) ps rows

pub row_fits : (t : ℕ) (ps : List Player) (cs : List Cell) → row_possible t ps cs ≡ true → RowFits t ps cs
row_fits t [] [] h = tt
row_fits t [] (c ∷ cs) h = false≢true h
row_fits t (p ∷ ps) [] h = false≢true h
row_fits t (p ∷ ps) (c ∷ cs) h =
    let both = and_parts (cell_possible t p c) (row_possible t ps cs) h in
    (λ k. (cell_eq-Decides c (cell_at t p)).0 (implied (is_known t p) (cell_eq c (cell_at t p)) both.0 k), row_fits t ps cs both.1)

pub row_possible_from : (t : ℕ) (ps : List Player) (cs : List Cell) → RowFits t ps cs → row_possible t ps cs ≡ true
row_possible_from t [] [] h = refl
row_possible_from t [] (c ∷ cs) h = absurd h
row_possible_from t (p ∷ ps) [] h = absurd h
row_possible_from t (p ∷ ps) (c ∷ cs) h =
    and_from (cell_possible t p c) (row_possible t ps cs)
    (implies (is_known t p) (cell_eq c (cell_at t p)) (λ k. (cell_eq-Decides c (cell_at t p)).1 (h.0 k)))
    (row_possible_from t ps cs h.1)

pub fits : (t : ℕ) (ps : List Player) (q : Rows) → possible_from t ps q ≡ true → Fits t ps q
fits t ps [] h = tt
fits t ps (row ∷ rows) h =
    let both = and_parts (row_possible t ps row) (possible_from (suc t) ps rows) h in
    (row_fits t ps row both.0, fits (suc t) ps rows both.1)

pub possible_from_fits : (t : ℕ) (ps : List Player) (q : Rows) → Fits t ps q → possible_from t ps q ≡ true
possible_from_fits t ps [] h = refl
possible_from_fits t ps (row ∷ rows) h = and_from (row_possible t ps row) (possible_from (suc t) ps rows) (row_possible_from t ps row h.0) (possible_from_fits (suc t) ps rows h.1)

-- the rows from frame t on are the timeline's
abbrev pub OnTime : ℕ → List Player → Rows → Type 0
OnTime t ps [] = Unit {0}
OnTime t ps (row ∷ rows) = (row ≡ row_at ps t) × OnTime (suc t) ps rows

row_time_fits : (t : ℕ) (ps : List Player) → RowFits t ps (row_at ps t)
row_time_fits t [] = tt
row_time_fits t (p ∷ ps) = (λ _. refl, row_time_fits t ps)

-- what is the timeline's is possible
pub on_time_fits : (t : ℕ) (ps : List Player) (q : Rows) → OnTime t ps q → Fits t ps q
on_time_fits t ps [] h = tt
on_time_fits t ps (row ∷ rows) h = (subst (λ (r : List Cell). RowFits t ps r) (sym h.0) (row_time_fits t ps), on_time_fits (suc t) ps rows h.1)

-- each player's cell in frame t is known
abbrev pub AllKnown : ℕ → List Player → Type 0
AllKnown t [] = Unit {0}
AllKnown t (p ∷ ps) = (is_known t p ≡ true) × AllKnown t ps

pub row_settled : (t : ℕ) (ps : List Player) (row : List Cell) → AllKnown t ps → RowFits t ps row → row ≡ row_at ps t
row_settled t [] [] k h = refl
row_settled t [] (c ∷ cs) k h = absurd h
row_settled t (p ∷ ps) [] k h = absurd h
row_settled t (p ∷ ps) (c ∷ cs) k h = cc (h.0 k.0, row_settled t ps cs k.1 h.1)

-- a possible path is the timeline as far as that is known
pub fits_on_time : (t n : ℕ) (ps : List Player) (q : Rows) → ((s : ℕ) → t ≤ s → s < t + n → AllKnown s ps) → Fits t ps q → OnTime t ps (take n q)
fits_on_time t zero ps [] k h = tt
fits_on_time t zero ps (row ∷ rows) k h = tt
fits_on_time t (suc n) ps [] k h = tt
fits_on_time t (suc n) ps (row ∷ rows) k h = (
  row_settled t ps row (k t (omega arith) (omega arith)) h.0,
  fits_on_time (suc t) n ps rows (λ s a b. k s (omega arith) (omega arith)) h.1,
)
