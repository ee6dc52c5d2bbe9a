-- What the timeline once was, it still is, or isn't possible: an arriving word that equals the prediction changes no cell.
use Rattle.std.proofs.Common.{◌≡◌, ℕ, zero, suc, ◌<◌, ◌≤◌, List, [], ◌∷◌, ◌++◌, length, get_or, refl, ap, sym, ◌∙◌, true, false, arith, inl, inr, length-append}
use Rattle.std.specs.Prelude.{◌⊎◌, bit_and}
use Rattle.std.proofs.lemmas.Nat.Bits.{same_from_bits, bit_at_and}
use Rattle.std.proofs.lemmas.Bool.{false≢true, cases_Bool, cases_lt, false_from_ne_true}
use Rattle.std.proofs.lemmas.List.{append-nil}
use Rattle.roll_frame.specs.declared.row.Cell.TheVariants.{Word}
use Rattle.roll_frame.specs.Cells.{Rows}
use Rattle.roll_frame.specs.Core.{is_known}
use Rattle.roll_frame.specs.Timeline.{Player, last_word, predicted, cell_at, row_at}
use Rattle.roll_laws.proofs.Known.{cell_confirmed, cell_predicted, unknown, known_confirmed, RowFits, Fits, OnTime}
use Rattle.roll_laws.proofs.Ahead.{Later, AllLater, longer}

-- a mask applied twice is the mask applied once
pub masked_twice : (a m : ℕ) → bit_and (bit_and a m) m ≡ bit_and a m
masked_twice a m = same_from_bits (bit_and (bit_and a m) m) (bit_and a m) (λ i. omega (arith, bit_at_and (bit_and a m) m i, bit_at_and a m i))

last_at : (before : ℕ) (ws : List ℕ) (t : ℕ) → length ws ≡ suc t → last_word before ws ≡ get_or ws t 0
last_at before [] t e = absurd (omega arith)
last_at before (w ∷ []) zero e = refl
last_at before (w ∷ []) (suc t) e = absurd (omega arith)
last_at before (w ∷ v ∷ ws) zero e = absurd (omega arith)
last_at before (w ∷ v ∷ ws) (suc t) e = last_at w (v ∷ ws) t (omega arith)

-- where the later player is not known from frame t on, its prediction is the old one
abbrev pub Steady : ℕ → Player → Player → Type 0
Steady t old new = length new.words ≤ t → new.gone ≡ false → predicted new ≡ predicted old

none_more : (ws more : List ℕ) → length more ≡ 0 → ws ++ more ≡ ws
none_more ws [] e = append-nil ws
none_more ws (m ∷ more) e = absurd (omega arith)

same_words : (old new : Player) → Later old new → length new.words ≤ length old.words → predicted new ≡ predicted old
same_words old new l h =
    let none : length l.more ≡ 0 = omega (arith, ap length l.words, length-append old.words l.more) in
    let e : new.words ≡ old.words = l.words ∙ none_more old.words l.more none in
    rw (e, l.same_mask, l.same_before) refl

steady_first : (old new : Player) → Later old new → Steady 0 old new
steady_first old new l h g = same_words old new l (omega arith)

pub not_gone : (old new : Player) → Later old new → new.gone ≡ false → old.gone ≡ false
not_gone old new l g = false_from_ne_true old.gone (λ e. false≢true (sym g ∙ (l.gone e).0))

pub word_of_cell : (v w : ℕ) → Word v ≡ Word w → v ≡ w
word_of_cell v w e = cc

steady_next : (t : ℕ) (old new : Player) → Later old new → Steady t old new → (is_known t new ≡ true → cell_at t old ≡ cell_at t new) → Steady (suc t) old new
steady_next t old new l s c h g = go (cases_lt t (length new.words))
  where
    go : (t < length new.words) ⊎ (length new.words ≤ t) → predicted new ≡ predicted old
    go (inr past) = s past g
    go (inl here) = at (cases_lt t (length old.words))
      where
        at : (t < length old.words) ⊎ (length old.words ≤ t) → predicted new ≡ predicted old
        at (inl had) = same_words old new l (omega arith)
        at (inr not_yet) =
            let cells : Word (predicted old) ≡ Word (get_or new.words t 0) =
            sym (cell_predicted t old not_yet (not_gone old new l g)) ∙ c (known_confirmed t new here) ∙ cell_confirmed t new here in
            let word : predicted old ≡ get_or new.words t 0 = word_of_cell (predicted old) (get_or new.words t 0) cells in
            let last : last_word new.before new.words ≡ predicted old = last_at new.before new.words t (omega arith) ∙ sym word in
            rw (last, l.same_mask) (masked_twice (last_word old.before old.words) old.mask)

abbrev pub AllSteady : ℕ → List Player → List Player → Type 0
AllSteady t [] [] = Unit {0}
AllSteady t [] (n ∷ ns) = ⊥
AllSteady t (o ∷ os) [] = ⊥
AllSteady t (o ∷ os) (n ∷ ns) = Steady t o n × AllSteady t os ns

pub all_steady_first : (olds news : List Player) → AllLater olds news → AllSteady 0 olds news
all_steady_first [] [] l = tt
all_steady_first [] (n ∷ ns) l = l
all_steady_first (o ∷ os) [] l = l
all_steady_first (o ∷ os) (n ∷ ns) l = (steady_first o n l.0, all_steady_first os ns l.1)

all_steady_next : (t : ℕ) (olds news : List Player) → AllLater olds news → AllSteady t olds news → RowFits t news (row_at olds t) → AllSteady (suc t) olds news
all_steady_next t [] [] l s f = tt
all_steady_next t [] (n ∷ ns) l s f = l
all_steady_next t (o ∷ os) [] l s f = l
all_steady_next t (o ∷ os) (n ∷ ns) l s f = (steady_next t o n l.0 s.0 f.0, all_steady_next t os ns l.1 s.1 f.1)

steady_cell : (t : ℕ) (old new : Player) → Later old new → Steady t old new → (is_known t new ≡ true → cell_at t old ≡ cell_at t new) → cell_at t old ≡ cell_at t new
steady_cell t old new l s c = go (cases_Bool (is_known t new))
  where
    go : (is_known t new ≡ true) ⊎ (is_known t new ≡ false) → cell_at t old ≡ cell_at t new
    go (inl k) = c k
    go (inr k) =
        let u = unknown t new k in
        cell_predicted t old (omega (arith, longer old new l, u.0)) (not_gone old new l u.1) ∙ ap Word (sym (s u.0 u.1)) ∙ sym (cell_predicted t new u.0 u.1)

steady_row : (t : ℕ) (olds news : List Player) → AllLater olds news → AllSteady t olds news → RowFits t news (row_at olds t) → row_at olds t ≡ row_at news t
steady_row t [] [] l s f = refl
steady_row t [] (n ∷ ns) l s f = absurd l
steady_row t (o ∷ os) [] l s f = absurd l
steady_row t (o ∷ os) (n ∷ ns) l s f = cc (steady_cell t o n l.0 s.0 f.0, steady_row t os ns l.1 s.1 f.1)

-- rows that were the timeline's, and are possible later, are the timeline's later
pub stays_on_time : (t : ℕ) (olds news : List Player) (q : Rows) → AllLater olds news → AllSteady t olds news → OnTime t olds q → Fits t news q → OnTime t news q
stays_on_time t olds news [] l s h f = tt
stays_on_time t olds news (row ∷ rows) l s h f =
    let here : RowFits t news (row_at olds t) = rw h.0 at f.0 in
    (h.0 ∙ steady_row t olds news l s here, stays_on_time (suc t) olds news rows l (all_steady_next t olds news l s here) h.1 f.1)
