-- A byte has a bit from a place on where it is no less than that bit's power of two.
use Rattle.std.proofs.Common.{◌≡◌, ℕ, zero, suc, ◌+◌, ◌-◌, ◌<◌, ◌≤◌, ◌^◌, Bool, true, false, Option, refl, arith, sym, ◌∙◌, ap}
use Rattle.std.specs.Prelude.{◌==◌, nat_le, is_some, if◌then◌else◌, not}
use Rattle.std.specs.Int.{bit_at}
use Rattle.std.specs.List.{find, list_all, range_with_len}
use Rattle.std.proofs.lemmas.Bool.{and_parts, false≢true}

abbrev has_past : ℕ → ℕ → Bool
has_past p n = is_some (find (λ i. bit_at n i == 1) (range_with_len p (8 - p)))

abbrev agrees : ℕ → ℕ → Bool
agrees p n = if nat_le (2 ^ p) n then has_past p n else not (has_past p n)

-- each of 9 and 256 numbers was tried
all_agree : list_all (λ p. list_all (agrees p) (range_with_len 0 256)) (range_with_len 0 9) ≡ true
all_agree = refl

all_at : (test : ℕ → Bool) (k from i : ℕ) → list_all test (range_with_len from k) ≡ true → i < k → test (from + i) ≡ true
all_at test zero from i h l = absurd (omega arith)
all_at test (suc k) from zero h l = let here : from ≡ from + 0 = omega arith in ap test (sym here) ∙ (and_parts (test from) (list_all test (range_with_len (from + 1) k)) h).0
all_at test (suc k) from (suc i) h l =
    let there : from + suc i ≡ from + 1 + i = omega arith in
    ap test there ∙ all_at test k (from + 1) i (and_parts (test from) (list_all test (range_with_len (from + 1) k)) h).1 (omega arith)

pub past_is : (p n : ℕ) → p ≤ 8 → n < 256 → is_some (find (λ i. bit_at n i == 1) (range_with_len p (8 - p))) ≡ nat_le (2 ^ p) n
past_is p n few small = go (nat_le (2 ^ p) n) refl
  where
    row : list_all (agrees p) (range_with_len 0 256) ≡ true
    row = let z : p ≡ 0 + p = omega arith in ap (λ (q : ℕ). list_all (agrees q) (range_with_len 0 256)) z ∙ all_at (λ q. list_all (agrees q) (range_with_len 0 256)) 9 0 p all_agree (omega arith)

    cell : agrees p n ≡ true
    cell = let z : n ≡ 0 + n = omega arith in ap (agrees p) z ∙ all_at (agrees p) 256 0 n row (omega arith)

    go : (b : Bool) → nat_le (2 ^ p) n ≡ b → has_past p n ≡ b
    go true e = rw e at cell
    go false e = unnot (has_past p n) (rw e at cell)
      where
        unnot : (b : Bool) → not b ≡ true → b ≡ false
        unnot true h = absurd (false≢true h)
        unnot false h = refl

-- what a search finds tells
pub past_some : (p n : ℕ) (o : Option ℕ) → p ≤ 8 → n < 256 → find (λ i. bit_at n i == 1) (range_with_len p (8 - p)) ≡ o → is_some o ≡ nat_le (2 ^ p) n
past_some p n o few small e = ap is_some (sym e) ∙ past_is p n few small
