-- A window that a number is put into has that number and those that it had.
use Rattle.std.proofs.Common.{◌≡◌, ◌≢◌, ◌+◌, ◌*◌, ◌/◌, ◌%◌, ◌<◌, ◌≤◌, ◌^◌, ℕ, max, List, [], ◌∷◌, ◌++◌, Bool, true, false, cond, ◌&&◌, refl, sym, ap, ◌∙◌, arith, inl, inr, w64, length, set, get_or, get_or-set_same, get_or-set_other}
use Rattle.std.specs.Prelude.{◌==◌, bit_or}
use Rattle.std.specs.Int.{bit_at}
use Rattle.std.specs.List.{AllByRecursion, IsDistinct}
use Rattle.std.proofs.lemmas.Bool.{cases_eq, cases_lt}
use Rattle.std.proofs.lemmas.Bool.Decides.{nat_tests}
use Rattle.std.proofs.lemmas.Nat.Bits.{bit_at_set_same, bit_at_set_other, bit_at-zero}
use Rattle.roll_contact.specs.Windows.{IsWindowOf, after, all_after, answers_of, has, highest_of, is_new, place_of, was_taken}
use Rattle.roll_contact.specs.declared.window.Window.{Window}

-- two runs that share a place, of numbers within reach of each other, are one
pub one_run : (n m : ℕ) → n ≤ m + 1024 → m ≤ n + 1024 → n / 64 % 17 ≡ m / 64 % 17 → n / 64 ≡ m / 64
one_run n m up down same = omega arith

-- no number was taken that is above the highest
pub none_above : (taken : List ℕ) (n : ℕ) → highest_of taken < n → was_taken taken n ≡ false
none_above [] n h = refl
none_above (x ∷ taken) n h = let rest = none_above taken n (omega arith) in grind (arith, nat_tests)

-- the bits at a number's place, which begin anew if another run had it; and with the number's
abbrev pub kept_bits : ℕ → Window → ℕ
kept_bits n old = cond (get_or old.runs (place_of n) 0 == n / 64) (get_or old.bits (place_of n) 0) 0

abbrev pub put_bits : ℕ → Window → ℕ
put_bits n old = bit_or (kept_bits n old) (1 * 2 ^ (n % 64) % 2 ^ 64)

pub kept_same : (x y bits : ℕ) → x ≡ y → bits ≡ cond (x == y) bits 0
kept_same x y bits same = grind (arith, nat_tests)

pub kept_anew : (x y bits : ℕ) → x ≢ y → 0 ≡ cond (x == y) bits 0
kept_anew x y bits other = grind (arith, nat_tests)

-- what a put changes of a window
pub record IsPut (number : ℕ) (old new : Window) : Type 0 where
  pub highest : new.highest ≡ max old.highest number
  pub runs : new.runs ≡ set old.runs (place_of number) (number / 64)
  pub bits : new.bits ≡ set old.bits (place_of number) (put_bits number old)
  pub places : length old.runs ≡ 17
  pub words : length old.bits ≡ 17

-- at another place nothing changes
pub has_elsewhere : (n : ℕ) (old new : Window) (m : ℕ) → IsPut n old new → place_of m ≢ place_of n → has new m ≡ has old m
has_elsewhere n old new m p apart =
    let runs = get_or-set_other old.runs (place_of n) (place_of m) (n / 64) 0 apart in
    let bits = get_or-set_other old.bits (place_of n) (place_of m) (put_bits n old) 0 apart in
    rw (p.runs, p.bits, runs, bits) refl

-- what is at the number's place
pub has_there : (n : ℕ) (old new : Window) (m : ℕ) → IsPut n old new → place_of m ≡ place_of n
    → has new m ≡ ((n / 64 == m / 64) && (bit_at (put_bits n old) (m % 64) == 1))
has_there n old new m p place =
    let near : place_of n < 17 = omega arith in
    let runs = get_or-set_same old.runs (place_of n) (n / 64) 0 (omega (arith, p.places, near)) in
    let bits = get_or-set_same old.bits (place_of n) (put_bits n old) 0 (omega (arith, p.words, near)) in
    rw (p.runs, p.bits, place, runs, bits) refl

-- a test of the bits that were kept at a place
kept_test : (same : Bool) (bits k : ℕ) → (true && (bit_at (cond same bits 0) k == 1)) ≡ (same && (bit_at bits k == 1))
kept_test true bits k = refl
kept_test false bits k = rw (bit_at-zero k) refl

-- of the same run another number's bit stays
pub has_beside : (n : ℕ) (old new : Window) (m : ℕ) → IsPut n old new → n / 64 ≡ m / 64 → n ≢ m → has new m ≡ has old m
has_beside n old new m p run apart =
    let place : place_of m ≡ place_of n = ap (λ r. r % 17) (sym run) in
    let other : m % 64 ≢ n % 64 = λ same. apart (omega (arith, same, run)) in
    let bit : bit_at (put_bits n old) (m % 64) ≡ bit_at (kept_bits n old) (m % 64) = bit_at_set_other w64 (kept_bits n old) (n % 64) (omega arith) (m % 64) other in
    let same : (n / 64 == m / 64) ≡ true = grind (arith, nat_tests) in
    has_there n old new m p place
    ∙ rw (same, bit) (kept_test (get_or old.runs (place_of n) 0 == n / 64) (get_or old.bits (place_of n) 0) (m % 64)
    ∙ rw (place, sym run) refl)

-- of another run at the place nothing is left
pub has_before : (n : ℕ) (old new : Window) (m : ℕ) → IsPut n old new → place_of m ≡ place_of n → n / 64 ≢ m / 64 → has new m ≡ false
has_before n old new m p place apart =
    let other : (n / 64 == m / 64) ≡ false = grind (arith, nat_tests) in
    has_there n old new m p place ∙ rw other refl

pub has_itself : (n : ℕ) (old new : Window) → IsPut n old new → has new n ≡ true
has_itself n old new p =
    let bit : bit_at (put_bits n old) (n % 64) ≡ 1 = bit_at_set_same w64 (kept_bits n old) (n % 64) (omega arith) in
    let same : (n / 64 == n / 64) ≡ true = grind (arith, nat_tests) in
    has_there n old new n p refl ∙ rw (same, bit) refl

-- what a new number is not
pub new_is : (taken : List ℕ) (n : ℕ) → is_new taken n ≡ true → highest_of taken ≤ n + 1024
new_is taken n h = grind (arith, nat_tests)

-- a number's bit, after another was put
pub has_other : (taken : List ℕ) (n : ℕ) (old new : Window) (m : ℕ) → IsWindowOf taken old → IsPut n old new → highest_of taken ≤ n + 1024 → max n (highest_of taken) ≤ m + 1024 → n ≢ m → has new m ≡ was_taken taken m
has_other taken n old new m are p fresh near apart = elim (cases_eq (place_of m) (place_of n)) [
  | inr elsewhere ↦ has_elsewhere n old new m p elsewhere ∙ are.bits m (omega arith)
  | inl place ↦ elim (cases_eq (n / 64) (m / 64)) [
    | inl run ↦ has_beside n old new m p run apart ∙ are.bits m (omega arith)
    | inr other ↦ has_before n old new m p place other ∙ sym (elim (cases_lt (highest_of taken) m) [
      | inl above ↦ none_above taken m above
      | inr below ↦ absurd (other (one_run n m (omega arith) (omega arith) (sym place)))
    ])
  ]
]

pub has_taken : (taken : List ℕ) (n : ℕ) (old new : Window) (m : ℕ) → IsPut n old new → n ≡ m → has new m ≡ was_taken (n ∷ taken) m
has_taken taken n old new m p same =
    let yes : (n == m) ≡ true = grind (arith, nat_tests) in
    ap (has new) (sym same) ∙ (has_itself n old new p ∙ rw yes refl)

pub is_window_put : (taken : List ℕ) (n : ℕ) (old new : Window) → IsWindowOf taken old → IsPut n old new → is_new taken n ≡ true → IsWindowOf (n ∷ taken) new
is_window_put taken n old new are p fresh = record {
  highest = omega (arith, p.highest, are.highest);
  bits = λ m near. elim (cases_eq n m) [
    | inl same ↦ has_taken taken n old new m p same
    | inr apart ↦ let no : (n == m) ≡ false = grind (arith, nat_tests) in has_other taken n old new m are p (new_is taken n fresh) near apart ∙ rw no refl
  ];
}

-- ---- none is taken twice

-- a number that wasn't taken is none of those that were
none_of : (taken : List ℕ) (n : ℕ) → was_taken taken n ≡ false → AllByRecursion (λ y. (n == y) ≡ false) taken
none_of [] n h = tt
none_of (x ∷ taken) n h = (grind (arith, nat_tests), none_of taken n (grind (arith, nat_tests)))

new_isnt : (taken : List ℕ) (n : ℕ) → is_new taken n ≡ true → was_taken taken n ≡ false
new_isnt taken n h = grind (arith, nat_tests)

one_more : (taken : List ℕ) (n : ℕ) (b : Bool) → is_new taken n ≡ b → IsDistinct (λ one other. one == other) taken
    → IsDistinct (λ one other. one == other) (cond b (n ∷ taken) taken)
unfolding IsDistinct
one_more taken n true new h = (none_of taken n (new_isnt taken n new), h)
one_more taken n false new h = h

pub still_distinct : (taken came : List ℕ) → IsDistinct (λ one other. one == other) taken → IsDistinct (λ one other. one == other) (all_after taken came)
still_distinct taken [] h = h
still_distinct taken (n ∷ came) h = still_distinct (after taken n) came (one_more taken n (is_new taken n) refl h)

-- ---- numbers one after another

pub after_last : (taken came : List ℕ) (n : ℕ) → all_after taken (came ++ n ∷ []) ≡ after (all_after taken came) n
after_last taken [] n = refl
after_last taken (x ∷ came) n = after_last (after taken x) came n

pub answers_last : (taken came : List ℕ) (n : ℕ) → answers_of taken (came ++ n ∷ []) ≡ answers_of taken came ++ is_new (all_after taken came) n ∷ []
answers_last taken [] n = refl
answers_last taken (x ∷ came) n = ap (λ (l : List Bool). is_new taken x ∷ l) (answers_last (after taken x) came n)
