-- The bits of the local players, and that a session can start with them.
use Rattle.std.proofs.Common.{◌≡◌, ◌≢◌, ◌⊎◌, ℕ, zero, suc, ◌+◌, ◌-◌, ◌*◌, ◌%◌, ◌<◌, ◌≤◌, ◌^◌, List, [], ◌∷◌, ◌++◌, length, get_or, take, drop, Bool, true, false, Some, None, refl, ap, sym, ◌∙◌, subst, arith, inl, inr}
use Rattle.std.specs.Prelude.{◌==◌, ◌&&◌, ◌||◌, not, nat_le, nat_lt, bit_or}
use Rattle.std.specs.Int.{bit_at, is_in_range, w8}
use Rattle.std.specs.List.{find, list_any, range_with_len}
use Rattle.std.proofs.Math.Bool.{or-false}
use Rattle.std.proofs.Math.Nat.{mod-le}
use Rattle.std.proofs.Math.Pow.{pow-lt}
use Rattle.std.proofs.lemmas.Bool.{and_from, and_parts, cases_Bool, eq-eqb, eqb-true, false≢true, le-leb, leb-true, ltb-false, or_from, or_left, or_right}
use Rattle.std.proofs.lemmas.List.{take-append-drop, take_more}
use Rattle.std.proofs.lemmas.List.Folds.{list_any-append}
use Rattle.std.proofs.lemmas.Nat.{or_lt}
use Rattle.std.proofs.lemmas.Nat.Bits.{bit_at_set_other, bit_at_set_same}
use Rattle.roll_frame.specs.Faults.{outside, plain_settings}
use Rattle.roll_frame.specs.Settings.{delay_at, is_local, start_refusal}

find_push : (test : ℕ → Bool) (xs ys : List ℕ) → find test xs ≡ None → find test (xs ++ ys) ≡ find test ys
find_push test [] ys e = refl
find_push test (x ∷ xs) ys e = go (test x) refl (find_push test xs ys)
  where
    go : (b : Bool) → test x ≡ b → (find test xs ≡ None → find test (xs ++ ys) ≡ find test ys) → find test ((x ∷ xs) ++ ys) ≡ find test ys
    go true h r = let no : Some x ≡ None = rw h at e in absurd (cc no)
    go false h r = rw h (r (rw h at e))

first_more : (test : ℕ → Bool) (xs : List ℕ) (i : ℕ) → i < length xs → find test (take i xs) ≡ None → find test (take (i + 1) xs) ≡ find test (get_or xs i 0 ∷ [])
first_more test xs i h e = ap (find test) (take_more xs i 0 h) ∙ find_push test (take i xs) (get_or xs i 0 ∷ []) e

find_within : (test : ℕ → Bool) (xs ys : List ℕ) (x : ℕ) → find test xs ≡ Some x → find test (xs ++ ys) ≡ Some x
find_within test [] ys x e = let no : None ≡ Some x = e in absurd (cc no)
find_within test (y ∷ xs) ys x e = go (test y) refl (find_within test xs ys x)
  where
    go : (b : Bool) → test y ≡ b → (find test xs ≡ Some x → find test (xs ++ ys) ≡ Some x) → find test ((y ∷ xs) ++ ys) ≡ Some x
    go true h r = rw h (rw h at e)
    go false h r = rw h (r (rw h at e))

-- the numbers so far are inside, and so is the next one, or it is the first that isn't
pub inside_more : (players : ℕ) (xs : List ℕ) (i : ℕ) → i < length xs → outside players (take i xs) ≡ None → is_in_range 1 players (get_or xs i 0) ≡ true → outside players (take (i + 1) xs) ≡ None
inside_more players xs i h e a = first_more (λ p. not (is_in_range 1 players p)) xs i h e ∙ rw a refl

pub first_outside : (players : ℕ) (xs : List ℕ) (i : ℕ) → i < length xs → outside players (take i xs) ≡ None → is_in_range 1 players (get_or xs i 0) ≡ false → outside players xs ≡ Some (get_or xs i 0)
first_outside players xs i h e a =
    let test : ℕ → Bool = λ p. not (is_in_range 1 players p) in
    ap (find test) (sym (take-append-drop (i + 1) xs))
    ∙ find_within test (take (i + 1) xs) (drop (i + 1) xs) (get_or xs i 0) (first_more test xs i h e ∙ rw a refl)

pub range_parts : (n p : ℕ) → is_in_range 1 n p ≡ true → (1 ≤ p) × (p ≤ n)
range_parts n p e = let parts = and_parts (nat_le 1 p) (nat_le p n) e in (leb-true 1 p parts.0, leb-true p n parts.1)

-- one more bit
pub bits_more : (bits : ℕ) (xs : List ℕ) (i place : ℕ) → i < length xs → 1 ≤ get_or xs i 0 → get_or xs i 0 ≤ 8 → place < 8 → (bit_at bits place == 1) ≡ list_any (λ p. p == place + 1) (take i xs)
    → (bit_at (bit_or bits (1 * 2 ^ (get_or xs i 0 - 1) % 256)) place == 1) ≡ list_any (λ p. p == place + 1) (take (i + 1) xs)
bits_more bits xs i place h some few within e =
    same (cases_Bool (get_or xs i 0 == place + 1)) ∙ sym (ap (list_any (λ p. p == place + 1)) (take_more xs i 0 h) ∙ list_any-append (λ p. p == place + 1) (take i xs) (get_or xs i 0 ∷ []))
  where
    same : ((get_or xs i 0 == place + 1) ≡ true) ⊎ ((get_or xs i 0 == place + 1) ≡ false)
        → (bit_at (bit_or bits (1 * 2 ^ (get_or xs i 0 - 1) % 256)) place == 1) ≡ (list_any (λ p. p == place + 1) (take i xs) || list_any (λ p. p == place + 1) (get_or xs i 0 ∷ []))
    same (inl a) =
        let here : get_or xs i 0 - 1 ≡ place = omega (arith, eqb-true (get_or xs i 0) (place + 1) a) in
        let set : bit_at (bit_or bits (1 * 2 ^ (get_or xs i 0 - 1) % 256)) place ≡ 1 = subst (λ (q : ℕ). bit_at (bit_or bits (1 * 2 ^ (get_or xs i 0 - 1) % 256)) q ≡ 1) here (bit_at_set_same w8 bits (get_or xs i 0 - 1) (omega (arith, few, some))) in
        rw set (sym (or_right (list_any (λ p. p == place + 1) (take i xs)) (list_any (λ p. p == place + 1) (get_or xs i 0 ∷ [])) (or_left (get_or xs i 0 == place + 1) false a)))
    same (inr a) =
        let apart : place ≢ get_or xs i 0 - 1 = λ q. false≢true (sym a ∙ eq-eqb (get_or xs i 0) (place + 1) (omega (arith, q, some))) in
        let kept : bit_at (bit_or bits (1 * 2 ^ (get_or xs i 0 - 1) % 256)) place ≡ bit_at bits place = bit_at_set_other w8 bits (get_or xs i 0 - 1) (omega (arith, few, some)) place apart in
        ap (λ (n : ℕ). n == 1) kept ∙ e ∙ rw a (sym (or-false (list_any (λ p. p == place + 1) (take i xs))))

pub small_more : (bits players p : ℕ) → bits < 2 ^ players → 1 ≤ p → p ≤ players → bit_or bits (1 * 2 ^ (p - 1) % 256) < 2 ^ players
small_more bits players p h some few =
    let up : p - 1 < players = omega arith in
    let power : 2 ^ (p - 1) < 2 ^ players = pow-lt up in
    or_lt players bits (1 * 2 ^ (p - 1) % 256) h (omega (arith, power, mod-le (1 * 2 ^ (p - 1)) 256))

any_none : (test : ℕ → Bool) (xs : List ℕ) → ((x : ℕ) → test x ≡ false) → list_any test xs ≡ false
any_none test [] h = refl
any_none test (x ∷ xs) h = or_from (test x) (list_any test xs) (h x) (any_none test xs h)

any_at : (test : ℕ → Bool) (k from i : ℕ) → i < k → test (from + i) ≡ true → list_any test (range_with_len from k) ≡ true
any_at test zero from i l h = absurd (omega arith)
any_at test (suc k) from zero l h = let here : from + 0 ≡ from = omega arith in or_left (test from) (list_any test (range_with_len (from + 1) k)) (ap test (sym here) ∙ h)
any_at test (suc k) from (suc i) l h =
    let there : from + suc i ≡ from + 1 + i = omega arith in
    or_right (test from) (list_any test (range_with_len (from + 1) k)) (any_at test k (from + 1) i (omega arith) (ap test (sym there) ∙ h))

-- one of the players is local where one was listed
pub has_local : (settings_local players : ℕ) (local : List ℕ) → players ≤ 8 → 1 ≤ length local → outside players local ≡ None → ((place : ℕ) → place < 8 → (bit_at settings_local place == 1) ≡ list_any (λ p. p == place + 1) local)
    → list_any (λ place. bit_at settings_local place == 1) (range_with_len 0 players) ≡ true
has_local bits players [] few some inside h = absurd (omega arith)
has_local bits players (p ∷ ps) few some inside h = go (cases_Bool (is_in_range 1 players p))
  where
    go : (is_in_range 1 players p ≡ true) ⊎ (is_in_range 1 players p ≡ false) → list_any (λ place. bit_at bits place == 1) (range_with_len 0 players) ≡ true
    go (inr e) = let no : Some p ≡ None = rw e at inside in absurd (cc no)
    go (inl e) =
        let r = range_parts players p e in
        let here : p ≡ p - 1 + 1 = omega (arith, r.0) in
        let place : 0 + (p - 1) ≡ p - 1 = omega arith in
        any_at (λ q. bit_at bits q == 1) players 0 (p - 1) (omega (arith, r.0, r.1))
        (ap (λ (q : ℕ). bit_at bits q == 1) place ∙ h (p - 1) (omega (arith, r.0, r.1, few)) ∙ or_left (p == p - 1 + 1) (list_any (λ q. q == p - 1 + 1) ps) (eq-eqb p (p - 1 + 1) here))

abbrev AllZero : List ℕ → Type 0
AllZero [] = Unit {0}
AllZero (x ∷ xs) = (x ≡ 0) × AllZero xs

zeros : (xs : List ℕ) (i : ℕ) → AllZero xs → get_or xs i 0 ≡ 0
zeros [] i h = refl
zeros (x ∷ xs) zero h = h.0
zeros (x ∷ xs) (suc i) h = zeros xs i h.1

zero_delay : (players bits i : ℕ) → delay_at (plain_settings players bits) i ≡ 0
zero_delay players bits i = zeros (0 ∷ 0 ∷ 0 ∷ 0 ∷ 0 ∷ 0 ∷ 0 ∷ 0 ∷ []) i (refl, (refl, (refl, (refl, (refl, (refl, (refl, (refl, tt))))))))

not_past : (a b : ℕ) → b < a → nat_le a b ≡ false
not_past a b h = go (cases_Bool (nat_le a b))
  where
    go : (nat_le a b ≡ true) ⊎ (nat_le a b ≡ false) → nat_le a b ≡ false
    go (inl e) = absurd (omega (arith, leb-true a b e, h))
    go (inr e) = e

pub plain_starts : (players bits : ℕ) → 1 ≤ players → players ≤ 8 → bits < 2 ^ players → list_any (λ place. bit_at bits place == 1) (range_with_len 0 players) ≡ true → start_refusal (plain_settings players bits) ≡ None
plain_starts players bits some few small local = go (nat_lt 4 players) refl
  where
    short : list_any (λ place. nat_lt 8 (delay_at (plain_settings players bits) place)) (range_with_len 0 players) ≡ false
    short = any_none (λ place. nat_lt 8 (delay_at (plain_settings players bits) place)) (range_with_len 0 players) (λ i. rw (zero_delay players bits i) refl)

    none : list_any (λ place. not (is_local (plain_settings players bits) place) && nat_lt 0 (delay_at (plain_settings players bits) place)) (range_with_len 0 players) ≡ false
    none = any_none (λ place. not (is_local (plain_settings players bits) place) && nat_lt 0 (delay_at (plain_settings players bits) place)) (range_with_len 0 players) (λ i. rw (zero_delay players bits i) (right (not (is_local (plain_settings players bits) i))))
      where
        right : (b : Bool) → (b && false) ≡ false
        right true = refl
        right false = refl

    go : (b : Bool) → nat_lt 4 players ≡ b → start_refusal (plain_settings players bits) ≡ None
    go true e =
        let within : is_in_range 1 8 players ≡ true = and_from (nat_le 1 players) (nat_le players 8) (le-leb 1 players some) (le-leb players 8 few) in
        rw (e, within, local, not_past (2 ^ players) bits small, short, none) refl
    go false e =
        let within : is_in_range 1 4 players ≡ true = and_from (nat_le 1 players) (nat_le players 4) (le-leb 1 players some) (le-leb players 4 (ltb-false 4 players e)) in
        rw (e, within, local, not_past (2 ^ players) bits small, short, none) refl
