-- Whether a test holds for any of the first numbers, or for each, as it is found out one by one.
use Rattle.std.proofs.Common.{◌≡◌, ◌∙◌, ◌⊎◌, ◌<◌, ◌≤◌, ◌+◌, ℕ, zero, suc, get_or, refl, ap, arith, inl, inr, Bool, true, false}
use Rattle.std.specs.List.{list_any, range_with_len}
use Rattle.std.proofs.lemmas.Bool.{cases_lt}
use Rattle.std.proofs.lemmas.List.Folds.{list_any_at}
use Rattle.std.proofs.lemmas.List.FromFn.{get_or-range_with_len, length-range_with_len}

pub any_below : (test : ℕ → Bool) (n k : ℕ) → k < n → test k ≡ true → list_any test (range_with_len 0 n) ≡ true
any_below test n k l e =
    let at : get_or (range_with_len 0 n) k 0 ≡ k = get_or-range_with_len 0 n k 0 l ∙ omega arith in
    list_any_at test (range_with_len 0 n) k 0 (omega (arith, l, length-range_with_len 0 n)) (ap test at ∙ e)

none_of_range : (test : ℕ → Bool) (a n : ℕ) → ((k : ℕ) → a ≤ k → k < a + n → test k ≡ false)
    → list_any test (range_with_len a n) ≡ false
none_of_range test a zero h = refl
none_of_range test a (suc n) h =
    rw (h a (omega arith) (omega arith)) (none_of_range test (a + 1) n (λ k l u. h k (omega arith) (omega arith)))

pub none_until : (test : ℕ → Bool) (n k : ℕ) → n ≤ k → ((m : ℕ) → m < k → test m ≡ false)
    → list_any test (range_with_len 0 n) ≡ false
none_until test n k l h = none_of_range test 0 n (λ m low u. h m (omega arith))

-- one more after those for which it holds
pub each_next : (test : ℕ → Bool) (n : ℕ) → ((k : ℕ) → k < n → test k ≡ true) → test n ≡ true
    → (k : ℕ) → k < n + 1 → test k ≡ true
each_next test n h e k l = go (cases_lt k n)
  where
    go : (k < n) ⊎ (n ≤ k) → test k ≡ true
    go (inl less) = h k less
    go (inr more) =
        let same : k ≡ n = omega (arith, l, more) in
        ap test same ∙ e
