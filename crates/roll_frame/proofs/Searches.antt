-- The first number of a range of which a test holds, found one by one.
use Rattle.std.proofs.Common.{◌≡◌, ℕ, zero, suc, ◌+◌, ◌-◌, ◌<◌, ◌≤◌, Bool, true, false, Option, Some, None, ap, ◌∙◌, arith}
use Rattle.std.specs.List.{find, range_with_len}
use Rattle.std.specs.Prelude.{if◌then◌else◌}

-- what is left of a search from a on, up to b
abbrev pub rest : (ℕ → Bool) → ℕ → ℕ → Option ℕ
rest test a b = find test (range_with_len a (b - a))

first_of : (test : ℕ → Bool) (a b : ℕ) → a < b → rest test a b ≡ (if test a then Some a else rest test (a + 1) b)
first_of test a b h =
    let n : b - a ≡ suc (b - (a + 1)) = omega arith in
    ap (λ (k : ℕ). find test (range_with_len a k)) n

pub search_ends : (test : ℕ → Bool) (a b : ℕ) → b ≤ a → rest test a b ≡ None
search_ends test a b h = let n : b - a ≡ zero = omega arith in ap (λ (k : ℕ). find test (range_with_len a k)) n

pub search_finds : (test : ℕ → Bool) (a b : ℕ) → a < b → test a ≡ true → rest test a b ≡ Some a
search_finds test a b h e = first_of test a b h ∙ ap (λ (t : Bool). if t then Some a else rest test (a + 1) b) e

pub search_goes_on : (test : ℕ → Bool) (a b : ℕ) → a < b → test a ≡ false → rest test a b ≡ rest test (a + 1) b
search_goes_on test a b h e = first_of test a b h ∙ ap (λ (t : Bool). if t then Some a else rest test (a + 1) b) e
