-- Players later on: words are only added, and who is gone stays gone.
use Rattle.std.proofs.Common.{◌≡◌, ℕ, suc, ◌<◌, ◌≤◌, List, [], ◌∷◌, ◌++◌, length, get_or, refl, ap, sym, ◌∙◌, true, arith, inl, inr, append_assoc, length-append}
use Rattle.std.specs.Prelude.{◌⊎◌}
use Rattle.std.proofs.lemmas.List.{get_or_append_left, append-nil}
use Rattle.roll_frame.specs.Cells.{Rows}
use Rattle.roll_frame.specs.Core.{is_known}
use Rattle.roll_frame.specs.Timeline.{Player, cell_at, row_at}
use Rattle.roll_frame.specs.declared.row.Cell.{Cell}
use Rattle.roll_frame.specs.declared.row.Cell.TheVariants.{Word}
use Rattle.roll_laws.proofs.Known.{cell_confirmed, cell_gone, known_cases, known_confirmed, known_gone, RowFits, Fits, AllKnown}

pub record Later (old new : Player) : Type 0 where
  pub same_local : new.local ≡ old.local
  pub same_mask : new.mask ≡ old.mask
  pub same_before : new.before ≡ old.before
  pub more : List ℕ
  pub words : new.words ≡ old.words ++ more
  pub gone : old.gone ≡ true → (new.gone ≡ true) × (new.words ≡ old.words)

pub later_same : (p : Player) → Later p p
later_same p = record { same_local = refl; same_mask = refl; same_before = refl; more = []; words = sym (append-nil p.words); gone = λ g. (g, refl) }

pub later_trans : (a b c : Player) → Later a b → Later b c → Later a c
later_trans a b c x y = record {
  same_local = y.same_local ∙ x.same_local;
  same_mask = y.same_mask ∙ x.same_mask;
  same_before = y.same_before ∙ x.same_before;
  more = x.more ++ y.more;
  words = y.words ∙ ap (λ ws. ws ++ y.more) x.words ∙ append_assoc a.words x.more y.more;
  gone = λ g. let i = x.gone g in let j = y.gone i.0 in (j.0, j.1 ∙ i.1);
}

abbrev pub AllLater : List Player → List Player → Type 0
AllLater [] [] = Unit {0}
AllLater [] (q ∷ qs) = ⊥
AllLater (p ∷ ps) [] = ⊥
AllLater (p ∷ ps) (q ∷ qs) = Later p q × AllLater ps qs

pub all_later_same : (ps : List Player) → AllLater ps ps
all_later_same [] = tt
all_later_same (p ∷ ps) = (later_same p, all_later_same ps)

pub all_later_trans : (xs ys zs : List Player) → AllLater xs ys → AllLater ys zs → AllLater xs zs
all_later_trans [] [] [] h k = tt
all_later_trans [] [] (z ∷ zs) h k = absurd k
all_later_trans [] (y ∷ ys) zs h k = absurd h
all_later_trans (x ∷ xs) [] zs h k = absurd h
all_later_trans (x ∷ xs) (y ∷ ys) [] h k = absurd k
all_later_trans (x ∷ xs) (y ∷ ys) (z ∷ zs) h k = (later_trans x y z h.0 k.0, all_later_trans xs ys zs h.1 k.1)

pub longer : (old new : Player) → Later old new → length old.words ≤ length new.words
longer old new l = omega (arith, ap length l.words, length-append old.words l.more)

-- a cell that is known stays
pub known_stays : (t : ℕ) (old new : Player) → Later old new → is_known t old ≡ true → (is_known t new ≡ true) × (cell_at t new ≡ cell_at t old)
known_stays t old new l k = go (known_cases t old k)
  where
    go : (t < length old.words) ⊎ ((length old.words ≤ t) × (old.gone ≡ true)) → (is_known t new ≡ true) × (cell_at t new ≡ cell_at t old)
    go (inl h) =
        let in_new : t < length new.words = omega (arith, longer old new l) in
        let same : get_or new.words t 0 ≡ get_or old.words t 0 = ap (λ ws. get_or ws t 0) l.words ∙ get_or_append_left old.words l.more 0 t h in
        (known_confirmed t new in_new, cell_confirmed t new in_new ∙ ap Word same ∙ sym (cell_confirmed t old h))
    go (inr h) =
        let e = l.gone h.1 in
        let past : length new.words ≤ t = omega (arith, ap length e.1, h.0) in
        (known_gone t new e.0, cell_gone t new past e.0 ∙ sym (cell_gone t old h.0 h.1))

-- what is possible later was possible before
pub row_fits_before : (t : ℕ) (olds news : List Player) (row : List Cell) → AllLater olds news → RowFits t news row → RowFits t olds row
row_fits_before t [] [] [] l h = tt
row_fits_before t [] [] (c ∷ cs) l h = absurd h
row_fits_before t [] (n ∷ ns) cs l h = absurd l
row_fits_before t (o ∷ os) [] cs l h = absurd l
row_fits_before t (o ∷ os) (n ∷ ns) [] l h = absurd h
row_fits_before t (o ∷ os) (n ∷ ns) (c ∷ cs) l h =
    (λ k. let s = known_stays t o n l.0 k in h.0 s.0 ∙ s.1, row_fits_before t os ns cs l.1 h.1)

pub fits_before : (t : ℕ) (olds news : List Player) (q : Rows) → AllLater olds news → Fits t news q → Fits t olds q
fits_before t olds news [] l h = tt
fits_before t olds news (row ∷ rows) l h = (row_fits_before t olds news row l h.0, fits_before (suc t) olds news rows l h.1)

-- a row that all know stays
pub all_known_stays : (t : ℕ) (olds news : List Player) → AllLater olds news → AllKnown t olds → AllKnown t news
all_known_stays t [] [] l k = tt
all_known_stays t [] (n ∷ ns) l k = absurd l
all_known_stays t (o ∷ os) [] l k = absurd l
all_known_stays t (o ∷ os) (n ∷ ns) l k = ((known_stays t o n l.0 k.0).0, all_known_stays t os ns l.1 k.1)

pub known_row_stays : (t : ℕ) (olds news : List Player) → AllLater olds news → AllKnown t olds → row_at news t ≡ row_at olds t
known_row_stays t [] [] l k = refl
known_row_stays t [] (n ∷ ns) l k = absurd l
known_row_stays t (o ∷ os) [] l k = absurd l
known_row_stays t (o ∷ os) (n ∷ ns) l k = cc ((known_stays t o n l.0 k.0).1, known_row_stays t os ns l.1 k.1)
