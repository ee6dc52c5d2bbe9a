-- How many of the first so many pass a test: none of none, and one more if the next one does.
use Rattle.std.proofs.Common.{◌≡◌, ◌⊎◌, inl, inr, ℕ, zero, suc, ◌+◌, ◌<◌, ◌≤◌, Bool, true, false, None, Some, refl, subst, sym, arith}
use Rattle.std.specs.Prelude.{if◌then◌else◌}
use Rattle.std.specs.List.{filter, range_with_len, slice_get}
use Rattle.std.proofs.lemmas.Bool.{cases_eq}
use Rattle.roll_peer.specs.CutOffs.{count_of}

after : (n : ℕ) → n + 1 ≡ suc n
after n = omega arith

pub count_none : (test : ℕ → Bool) → count_of test 0 ≡ 0
unfolding count_of
count_none test = refl

pub count_next : (test : ℕ → Bool) (n : ℕ)
    → count_of test (n + 1) ≡ count_of test n + (if test n then 1 else 0)
unfolding count_of
count_next test n = rw (after n) refl

-- what passes, or fails, for all of the first so many, and for the next
pub all_next : (test : ℕ → Bool) (n : ℕ) (b : Bool) → ((m : ℕ) → m < n → test m ≡ b) → test n ≡ b
    → (m : ℕ) → m < n + 1 → test m ≡ b
all_next test n b before here m l = go (cases_eq m n)
  where
    go : (m ≡ n) ⊎ (m ≡ n → ⊥) → test m ≡ b
    go (inl same) = subst (λ (k : ℕ). test k ≡ b) (sym same) here
    go (inr other) = before m (omega (arith, l, other))

-- the first number from one on, of so many, that passes a test
first_from : (test : ℕ → Bool) (a n k : ℕ) → a ≤ k → k < a + n → test k ≡ true
    → ((m : ℕ) → a ≤ m → m < k → test m ≡ false) → slice_get (filter test (range_with_len a n)) 0 ≡ Some k
first_from test a zero k l u h none = absurd (over l u)
  where
    over : a ≤ k → k < a + 0 → ⊥
    over l u = omega arith
first_from test a (suc n) k l u h none = go (cases_eq k a) (first_from test (a + 1) n k)
  where
    go : (k ≡ a) ⊎ (k ≡ a → ⊥)
        → (a + 1 ≤ k → k < a + 1 + n → test k ≡ true → ((m : ℕ) → a + 1 ≤ m → m < k → test m ≡ false)
        → slice_get (filter test (range_with_len (a + 1) n)) 0 ≡ Some k)
        → slice_get (filter test (range_with_len a (suc n))) 0 ≡ Some k
    go (inl e) later =
        let holds : test a ≡ true = subst (λ (x : ℕ). test x ≡ true) e h in
        rw (holds, e) refl
    go (inr other) later =
        let past : a < k = omega arith in
        let fails : test a ≡ false = none a (omega arith) past in
        rw (fails) (later (omega (arith, past)) (omega (arith, u)) h (λ m low up. none m (omega (arith, low)) up))

pub first_passes : (test : ℕ → Bool) (n k : ℕ) → k < n → test k ≡ true
    → ((m : ℕ) → m < k → test m ≡ false) → slice_get (filter test (range_with_len 0 n)) 0 ≡ Some k
first_passes test n k l h none = first_from test 0 n k (omega arith) (omega (arith, l)) h (λ m low up. none m up)

none_from : (test : ℕ → Bool) (a n : ℕ) → ((m : ℕ) → a ≤ m → m < a + n → test m ≡ false)
    → slice_get (filter test (range_with_len a n)) 0 ≡ None
none_from test a zero none = refl
none_from test a (suc n) none =
    let fails : test a ≡ false = none a (omega arith) (omega arith) in
    rw (fails) (none_from test (a + 1) n (λ m low up. none m (omega (arith, low)) (omega (arith, up))))

pub none_passes : (test : ℕ → Bool) (n : ℕ) → ((m : ℕ) → m < n → test m ≡ false)
    → slice_get (filter test (range_with_len 0 n)) 0 ≡ None
none_passes test n none = none_from test 0 n (λ m low up. none m (omega (arith, up)))
