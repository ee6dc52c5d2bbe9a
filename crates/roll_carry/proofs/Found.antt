-- The machines that have a way to another are those from which there is one.
use Rattle.std.proofs.Common.{◌≡◌, ◌⊎◌, inl, inr, ℕ, zero, suc, ◌+◌, ◌<◌, ◌≤◌, Bool, true, false, not, ◌&&◌, List, [], ◌∷◌, length, refl, sym, ap, ◌∙◌, arith}
use Rattle.std.proofs.lemmas.Bool.{cases_Bool, cases_lt, false≢true, and_from, and_parts, or_cases, or_left, or_right}
use Rattle.std.proofs.lemmas.List.{get_or_past}
use Rattle.roll_mesh.specs.Machines.{at_all, at_places, is_in}
use Rattle.roll_mesh.proofs.Places.{all_places, at_place, length_places, not_all_places}
use Rattle.roll_carry.specs.declared.datagram.Hearing.{Hearing}
use Rattle.roll_carry.specs.Ways.{deaf, hears, is_heard_by, is_heard_in, is_near, with_way, HasWay, IsWay, WaysAreFound}

after : (n : ℕ) → n + 1 ≡ suc n
after n = omega arith

pub ways_none : (lines : List Hearing) (shut : List Bool) (to : ℕ)
    → with_way lines shut to 0 ≡ at_places (is_heard_by lines shut to) shut
unfolding with_way
ways_none lines shut to = refl

pub ways_next : (lines : List Hearing) (shut : List Bool) (to n : ℕ)
    → with_way lines shut to (n + 1)
    ≡ at_places (is_near lines shut (with_way lines shut to n)) (with_way lines shut to n)
unfolding with_way
ways_next lines shut to n = rw (after n) refl

-- ---- tests of some place

-- among the first so many numbers one passes a test, or none does
search_below : (p : ℕ → Bool) (n : ℕ)
    → ((k : ℕ) × (k < n) × (p k ≡ true)) ⊎ ((k : ℕ) → k < n → p k ≡ false)
search_below p zero = inr (λ k h. absurd (none h))
  where
    none : {k : ℕ} → k < 0 → ⊥
    none h = omega arith
search_below p (suc n) = go (search_below p n) (cases_Bool (p n))
  where
    here : (k : ℕ) → k < suc n → ((k < n) ⊎ (k ≡ n))
    here k h = split (cases_lt k n)
      where
        split : (k < n) ⊎ (n ≤ k) → (k < n) ⊎ (k ≡ n)
        split (inl l) = inl l
        split (inr g) = inr (omega arith)

    go : ((k : ℕ) × (k < n) × (p k ≡ true)) ⊎ ((k : ℕ) → k < n → p k ≡ false)
        → (p n ≡ true) ⊎ (p n ≡ false)
        → ((k : ℕ) × (k < suc n) × (p k ≡ true)) ⊎ ((k : ℕ) → k < suc n → p k ≡ false)
    go (inl found) last = inl (found.0, omega (arith, found.1), found.2)
    go (inr none) (inl holds) = inl (n, omega arith, holds)
    go (inr none) (inr fails) = inr (λ k h. at (here k h))
      where
        at : {k : ℕ} → (k < n) ⊎ (k ≡ n) → p k ≡ false
        at (inl l) = none _ l
        at (inr e) = rw e fails

-- if not all places fail a test, one passes it
some_place : (p : ℕ → Bool) (xs : List Bool) → not (at_all (λ k. not (p k)) xs) ≡ true
    → (k : ℕ) × (k < length xs) × (p k ≡ true)
some_place p xs h = go (search_below p (length xs))
  where
    go : ((k : ℕ) × (k < length xs) × (p k ≡ true)) ⊎ ((k : ℕ) → k < length xs → p k ≡ false)
        → (k : ℕ) × (k < length xs) × (p k ≡ true)
    go (inl found) = found
    go (inr none) = absurd (false≢true (sym (ap not
        (sym (all_places (λ k. not (p k)) xs (length xs) (omega arith)
        (λ m l. ap not (none m l))))) ∙ h))

-- ---- the law

size : (lines : List Hearing) (shut : List Bool) (to n : ℕ)
    → length (with_way lines shut to n) ≡ length shut
unfolding with_way
size lines shut to zero = length_places (is_heard_by lines shut to) shut
size lines shut to (suc n) =
    length_places (is_near lines shut (with_way lines shut to n)) (with_way lines shut to n)
    ∙ size lines shut to n

-- the first step, and each further one
at_first : (lines : List Hearing) (shut : List Bool) (to c : ℕ) → c < length shut
    → is_in (with_way lines shut to zero) c ≡ is_heard_by lines shut to c
unfolding with_way
at_first lines shut to c h = at_place (is_heard_by lines shut to) shut c false h

at_next : (lines : List Hearing) (shut : List Bool) (to n c : ℕ) → c < length shut
    → is_in (with_way lines shut to (suc n)) c ≡ is_near lines shut (with_way lines shut to n) c
unfolding with_way
at_next lines shut to n c h =
    at_place (is_near lines shut (with_way lines shut to n)) (with_way lines shut to n) c false
    (omega (arith, h, size lines shut to n))

not_true : (b : Bool) → not b ≡ true → b ≡ false
not_true true h = absurd (false≢true h)
not_true false h = refl

longer : (lines : List Hearing) (shut : List Bool) (c n to : ℕ) → HasWay lines shut c n to
    → HasWay lines shut c (suc n) to
longer lines shut c n to way = (way.0, (way.1.0, omega (arith, way.1.1), way.1.2))

heard_by_some : (lines : List Hearing) (set : List Bool) (c : ℕ) → is_heard_in lines set c ≡ true
    → (k : ℕ) × (k < length set) × ((is_in set k ≡ true) × (hears lines k c ≡ true))
unfolding is_heard_in
heard_by_some lines set c h =
    let one = some_place (λ k. is_in set k && hears lines k c) set h in
    (one.0, one.1, and_parts (is_in set one.0) (hears lines one.0 c) one.2)

heard_by_one : (lines : List Hearing) (set : List Bool) (c k : ℕ) → k < length set
    → is_in set k ≡ true → hears lines k c ≡ true → is_heard_in lines set c ≡ true
unfolding is_heard_in
heard_by_one lines set c k l inside heard =
    sym (ap not (not_all_places (λ m. not (is_in set m && hears lines m c)) set k l
    (ap not (and_from (is_in set k) (hears lines k c) inside heard))))

found : (lines : List Hearing) (shut : List Bool) (to n c : ℕ) → c < length shut
    → is_in (with_way lines shut to n) c ≡ true → HasWay lines shut c n to
found lines shut to zero c h e =
    let parts = and_parts (not (is_in shut c)) (hears lines to c)
    (sym (at_first lines shut to c h) ∙ e) in
    (not_true (is_in shut c) parts.0, ([], omega arith, parts.1))
found lines shut to (suc n) c h e =
    go (found lines shut to n) (or_cases (is_in (with_way lines shut to n) c)
    (not (is_in shut c) && is_heard_in lines (with_way lines shut to n) c)
    (sym (at_next lines shut to n c h) ∙ e))
  where
    go : ((k : ℕ) → k < length shut → is_in (with_way lines shut to n) k ≡ true
        → HasWay lines shut k n to)
        → (is_in (with_way lines shut to n) c ≡ true)
        ⊎ ((not (is_in shut c) && is_heard_in lines (with_way lines shut to n) c) ≡ true)
        → HasWay lines shut c (suc n) to
    go before (inl was) = longer lines shut c n to (before c h was)
    go before (inr near) =
        let parts = and_parts (not (is_in shut c)) (is_heard_in lines (with_way lines shut to n) c) near in
        let next = heard_by_some lines (with_way lines shut to n) c parts.1 in
        let way = before next.0 (omega (arith, next.1, size lines shut to n)) next.2.0 in (
          not_true (is_in shut c) parts.0,
          (next.0 ∷ way.1.0, omega (arith, way.1.1), (way.0, next.2.1, way.1.2)),
        )

-- who is reached stays reached
stays : (lines : List Hearing) (shut : List Bool) (to n c : ℕ) → c < length shut
    → is_in (with_way lines shut to n) c ≡ true → is_in (with_way lines shut to (suc n)) c ≡ true
stays lines shut to n c h e =
    at_next lines shut to n c h
    ∙ or_left (is_in (with_way lines shut to n) c)
    (not (is_in shut c) && is_heard_in lines (with_way lines shut to n) c) e

none_past : (lines : List Hearing) (k c : ℕ) → length lines ≤ k → hears lines k c ≡ false
none_past lines k c h = rw (get_or_past lines k deaf h) refl

heard_inside : (lines : List Hearing) (k c : ℕ) → hears lines k c ≡ true → k < length lines
heard_inside lines k c e = go (cases_lt k (length lines))
  where
    go : (k < length lines) ⊎ (length lines ≤ k) → k < length lines
    go (inl l) = l
    go (inr g) = absurd (false≢true (sym (none_past lines k c g) ∙ e))

reached : (lines : List Hearing) (shut : List Bool) (to n c : ℕ) (by : List ℕ)
    → length lines ≡ length shut → c < length shut → length by ≤ n → is_in shut c ≡ false
    → IsWay lines shut c by to → is_in (with_way lines shut to n) c ≡ true
reached lines shut to zero c [] same h few free way =
    at_first lines shut to c h
    ∙ and_from (not (is_in shut c)) (hears lines to c) (ap not free) way
reached lines shut to (suc n) c [] same h few free way =
    stays lines shut to n c h (reached lines shut to n c [] same h (omega arith) free way)
reached lines shut to zero c (next ∷ more) same h few free way = absurd (none few)
  where
    none : length (next ∷ more) ≤ 0 → ⊥
    none l = omega arith
reached lines shut to (suc n) c (next ∷ more) same h few free way =
    let inside : next < length shut = omega (arith, same, heard_inside lines next c way.1) in
    let further = reached lines shut to n next more same inside (omega arith) way.0 way.2 in
    at_next lines shut to n c h
    ∙ or_right (is_in (with_way lines shut to n) c)
    (not (is_in shut c) && is_heard_in lines (with_way lines shut to n) c)
    (and_from (not (is_in shut c)) (is_heard_in lines (with_way lines shut to n) c) (ap not free)
    (heard_by_one lines (with_way lines shut to n) c next (omega (arith, inside, size lines shut to n))
    further way.1))

pub ways_are_found : WaysAreFound
ways_are_found lines shut to most machine all h =
    let inside : machine < length shut = omega (arith, all.shut_is) in (
      found lines shut to most machine inside,
      λ way. reached lines shut to most machine way.1.0 (all.lines_are ∙ sym all.shut_is) inside
          way.1.1 way.0 way.1.2,
    )
