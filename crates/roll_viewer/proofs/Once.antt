-- Offers that say their first row once: they are read as the spans that they are of.
use Rattle.std.proofs.Common.{◌≡◌, ◌∙◌, ◌≤◌, ◌<◌, ◌⊎◌, ◌-◌, ℕ, zero, suc, List, [], ◌∷◌, take, drop, map, max, refl, ap, arith, Bool, true, false, inl, inr}
use Rattle.std.specs.List.{list_all}
use Rattle.std.specs.Prelude.{not, ◌||◌, ◌&&◌, ◌==◌, nat_le, nat_lt}
use Rattle.std.proofs.lemmas.Bool.{and_from, and_parts, cases_lt, le-leb, le-ltb, lt-ltb, ltb-true}
use Rattle.std.proofs.Math.Bool.{or-true}
use Rattle.std.proofs.lemmas.List.Sums.{sum_by-cons}
use Rattle.roll_mesh.specs.declared.packet.Offer.{Offer}
use Rattle.roll_wire.specs.Spelling.{are_offers, count_of, is_offer}
use Rattle.roll_viewer.specs.Rows.{cell_in, first_of, follows, has_words, is_said_once, row_count, row_in}
use Rattle.roll_viewer.specs.Telling.{said_as, said_once}

abbrev size : Offer → ℕ
size o = o.end - o.first

pub size_as : (b : Bool) (o : Offer) → size (said_as b o) ≡ size o
size_as b o = go b (cases_lt o.first o.end)
  where
    go : (b : Bool) → (o.first < o.end) ⊎ (o.end ≤ o.first) → size (said_as b o) ≡ size o
    go true (inl l) = rw (lt-ltb o.first o.end l) (omega arith)
    go false (inl l) = rw (lt-ltb o.first o.end l) refl
    go b (inr l) = rw (le-ltb o.first o.end l) (omega (arith, l))

pub words_as : (b : Bool) (o : Offer) → has_words (said_as b o) ≡ has_words o
words_as b o = go b (cases_lt o.first o.end)
  where
    go : (b : Bool) → (o.first < o.end) ⊎ (o.end ≤ o.first) → has_words (said_as b o) ≡ has_words o
    go true (inl l) = rw (lt-ltb o.first o.end l) (lt-ltb 0 (o.end - o.first) (omega (arith, l)))
    go false (inl l) = rw (lt-ltb o.first o.end l) (lt-ltb o.first o.end l)
    go b (inr l) = rw (le-ltb o.first o.end l) refl

offer_as : (b : Bool) (o : Offer) → is_offer o ≡ true → is_offer (said_as b o) ≡ true
offer_as b o e = go b (cases_lt o.first o.end)
  where
    small : size o < 256
    small = ltb-true (size o) 256 (and_parts (nat_le o.first o.end) (nat_lt (size o) 256) e).1

    go : (b : Bool) → (o.first < o.end) ⊎ (o.end ≤ o.first) → is_offer (said_as b o) ≡ true
    go true (inl l) =
        rw (lt-ltb o.first o.end l)
        (and_from (nat_le 0 (size o)) (nat_lt (size o - 0) 256) (le-leb 0 (size o) (omega arith)) (lt-ltb (size o - 0) 256 (omega (arith, small))))
    go false (inl l) = rw (lt-ltb o.first o.end l) e
    go b (inr l) = rw (le-ltb o.first o.end l) refl

zero_as : (o : Offer) → (said_as true o).first ≡ 0
zero_as o = go (cases_lt o.first o.end)
  where
    go : (o.first < o.end) ⊎ (o.end ≤ o.first) → (said_as true o).first ≡ 0
    go (inl l) = rw (lt-ltb o.first o.end l) refl
    go (inr l) = rw (le-ltb o.first o.end l) refl

pub take_said : (n : ℕ) (b : Bool) (os : List Offer) → take n (said_once b os) ≡ said_once b (take n os)
take_said zero b os = refl
take_said (suc n) b [] = refl
take_said (suc n) b (o ∷ os) = ap (λ rest. said_as b o ∷ rest) (take_said n (b || has_words o) os)

all_silent : (b : Bool) (os : List Offer) → list_all (λ o. not (has_words o)) (said_once b os)
    ≡ list_all (λ o. not (has_words o)) os
all_silent b [] = refl
all_silent b (o ∷ os) =
    ap (λ w. not w && list_all (λ o. not (has_words o)) (said_once (b || has_words o) os)) (words_as b o)
    ∙ ap (λ w. not (has_words o) && w) (all_silent (b || has_words o) os)

pub rest_said : (n : ℕ) (b : Bool) (os : List Offer) → list_all (λ o. not (has_words o)) (drop n (said_once b os))
    ≡ list_all (λ o. not (has_words o)) (drop n os)
rest_said zero b os = all_silent b os
rest_said (suc n) b [] = refl
rest_said (suc n) b (o ∷ os) = rest_said n (b || has_words o) os

pub count_said : (b : Bool) (os : List Offer) → row_count (said_once b os) ≡ row_count os
count_said b [] = refl
count_said b (o ∷ os) =
    ap (λ n. max n (row_count (said_once (b || has_words o) os))) (size_as b o)
    ∙ ap (max (size o)) (count_said (b || has_words o) os)

pub row_said : (b : Bool) (os : List Offer) (ws : List ℕ) (i : ℕ) → row_in (said_once b os) ws i ≡ row_in os ws i
row_said b [] ws i = refl
row_said b (o ∷ os) ws i =
    let later : row_in (said_once (b || has_words o) os) (drop (size o) ws) i ≡ row_in os (drop (size o) ws) i =
    row_said (b || has_words o) os (drop (size o) ws) i in
    ap (λ n. cell_in i (take n ws) ∷ row_in (said_once (b || has_words o) os) (drop n ws) i) (size_as b o)
    ∙ ap (λ row. cell_in i (take (size o) ws) ∷ row) later

pub rows_said : (b : Bool) (os : List Offer) (ws xs : List ℕ)
    → map (row_in (said_once b os) ws) xs ≡ map (row_in os ws) xs
rows_said b os ws [] = refl
rows_said b os ws (x ∷ xs) =
    ap (λ row. row ∷ map (row_in (said_once b os) ws) xs) (row_said b os ws x)
    ∙ ap (λ rows. row_in os ws x ∷ rows) (rows_said b os ws xs)

pub sum_said : (b : Bool) (os : List Offer) → count_of (said_once b os) ≡ count_of os
sum_said b [] = refl
sum_said b (o ∷ os) =
    omega (
      arith,
      size_as b o,
      sum_said (b || has_words o) os,
      sum_by-cons (λ (o : Offer). o.end - o.first) o os,
      sum_by-cons (λ (o : Offer). o.end - o.first) (said_as b o) (said_once (b || has_words o) os),
    )

pub forward_said : (b : Bool) (os : List Offer) → are_offers os ≡ true → are_offers (said_once b os) ≡ true
forward_said b [] e = refl
forward_said b (o ∷ os) e =
    and_from (is_offer (said_as b o)) (are_offers (said_once (b || has_words o) os))
    (offer_as b o (and_parts (is_offer o) (are_offers os) e).0)
    (forward_said (b || has_words o) os (and_parts (is_offer o) (are_offers os) e).1)

all_follow : (os : List Offer) → list_all follows (said_once true os) ≡ true
all_follow [] = refl
all_follow (o ∷ os) =
    let here : follows (said_as true o) ≡ true =
    ap (λ first. not (has_words (said_as true o)) || (first == 0)) (zero_as o) ∙ or-true (not (has_words (said_as true o))) in
    and_from (follows (said_as true o)) (list_all follows (said_once true os)) here (all_follow os)

pub said_is_once : (os : List Offer) → is_said_once (said_once false os) ≡ true
said_is_once [] = refl
said_is_once (o ∷ os) = go (has_words o) refl (said_is_once os)
  where
    go : (w : Bool) → has_words o ≡ w → is_said_once (said_once false os) ≡ true
        → is_said_once (said_once false (o ∷ os)) ≡ true
    go true e later = rw (words_as false o, e) (all_follow os)
    go false e later = rw (words_as false o, e) later

pub first_said : (os : List Offer) → first_of (said_once false os) ≡ first_of os
first_said [] = refl
first_said (o ∷ os) = go (has_words o) refl (first_said os)
  where
    go : (w : Bool) → has_words o ≡ w → first_of (said_once false os) ≡ first_of os
        → first_of (said_once false (o ∷ os)) ≡ first_of (o ∷ os)
    go true e later = rw (e, e) refl
    go false e later = rw (e) later
