-- What the number that a text names is read as.
use Rattle.std.proofs.Common.{◌≡◌, ◌≤◌, ◌^◌, ◌&&◌, refl, ℕ, Bool, true, false, List, [], ◌∷◌, length, nat_lt, Result, Ok, Err, lt-ltb, ltb-true}
use Rattle.std.proofs.lemmas.Bool.{le-leb, leb-true}
use Rattle.std.specs.Prelude.{nat_le}
use Rattle.std.specs.Char.{digit_value}
use Rattle.std.specs.List.{list_all}
use Rattle.std.specs.Result.{result_unwrap_or}
use Rattle.std.specs.Str.Parse.{AllDigits, ParsesUnsigned, digits_value, without_leading_plus}
use Rattle.clap.proofs.WalkLemmas.{both}
use Rattle.clap.specs.ValueTests.{is_numeral}
use Rattle.clap.specs.Walk.{Text}
use Rattle.prog_command_line.specs.Requests.{number_in, workers_in}

digits_pass : (ds : List ℕ) → AllDigits 10 ds → list_all (λ d. nat_lt (digit_value d) 10) ds ≡ true
digits_pass [] h = refl
digits_pass (d ∷ ds) h = rw (lt-ltb (digit_value d) 10 h.0) (digits_pass ds h.1)

digits_from : (ds : List ℕ) → list_all (λ d. nat_lt (digit_value d) 10) ds ≡ true → AllDigits 10 ds
digits_from [] e = tt
digits_from (d ∷ ds) e =
    let parts = both _ _ e in
    (ltb-true _ _ parts.0, digits_from ds parts.1)

-- a text as a number of so many bits, or 0
pub number_read : {E : Type 0} (bits : ℕ) (text : Text) (r : Result ℕ E) → ParsesUnsigned bits 10 text r → result_unwrap_or r 0 ≡ number_in bits text
number_read bits text (Ok n) h =
    let ds = without_leading_plus text in
    rw (lt-ltb 0 (length ds) h.0.0.0, digits_pass ds h.0.0.1, lt-ltb (digits_value 10 ds) (2 ^ bits) h.0.1) h.1
number_read bits text (Err e) h = go (is_numeral (without_leading_plus text) && nat_lt (digits_value 10 (without_leading_plus text)) (2 ^ bits)) refl
  where
    go : (b : Bool) → (is_numeral (without_leading_plus text) && nat_lt (digits_value 10 (without_leading_plus text)) (2 ^ bits)) ≡ b → 0 ≡ number_in bits text
    go false t = rw t refl
    go true t =
        let outer = both _ _ t in
        let inner = both _ _ outer.0 in
        absurd (h ((ltb-true _ _ inner.0, digits_from (without_leading_plus text) inner.1), ltb-true _ _ outer.1))

-- how many workers there are, by the number that was read
pub few_workers : (n m : ℕ) → n ≡ m → 1 ≤ n → n ≤ 4 → n ≡ workers_in m
few_workers n m e some few = rw (← e, le-leb 1 n some, le-leb n 4 few) refl

pub no_workers : (n m : ℕ) → n ≡ m → ((1 ≤ n) × (n ≤ 4) → ⊥) → 1 ≡ workers_in m
no_workers n m e not_so = rw (← e) (go (nat_le 1 n) refl (nat_le n 4) refl)
  where
    go : (a : Bool) → nat_le 1 n ≡ a → (b : Bool) → nat_le n 4 ≡ b → 1 ≡ workers_in n
    go true x true y = absurd (not_so (leb-true 1 n x, leb-true n 4 y))
    go true x false y = rw (x, y) refl
    go false x b y = rw x refl
