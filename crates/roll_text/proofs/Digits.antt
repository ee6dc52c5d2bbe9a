-- The digits that a text begins with.
use Rattle.std.proofs.Common.{◌≡◌, ℕ, zero, suc, ◌+◌, ◌-◌, ◌*◌, ◌≤◌, ◌<◌, ◌^◌, ◌++◌, List, inl, inr, refl, sym, ap, ◌∙◌, subst, arith, length, length-append, take, drop, get_or}
use Rattle.std.specs.Int.{IsInRange, IsOutOfRange}
use Rattle.std.specs.Char.{digit_value}
use Rattle.std.specs.Fmt.{decimal}
use Rattle.std.specs.Str.Parse.{AllDigits, digits_value}
use Rattle.std.proofs.Math.Seq.{take-append_seam}
use Rattle.std.proofs.lemmas.Fmt.{decimal_digit, decimal_nonempty, digits_decimal, digits_value-decimal, decimal-digits_value, first_decimal, length-decimal-le}
use Rattle.std.proofs.lemmas.List.{get_or_append_left, get_or-append_right, get_or-take, get_or-drop, length-take, length-drop}
use Rattle.std.proofs.lemmas.Bool.{cases_lt}
use Rattle.std.proofs.lemmas.Int.Digits.{digits_value_more}
use Rattle.std.proofs.lemmas.Str.{digit_value_digit}
use Rattle.std.proofs.lemmas.Str.Parse.{IsNumeralModel, digits_value_short, numerals_by_value, tells_digits, tells_by_index}
use Rattle.roll_text.specs.Numbers.{AreDigits, IsWord, LacksDigit}

own : IsNumeralModel (AllDigits 10) (digits_value 10)
own = numerals_by_value _ tells_digits

by_index : IsNumeralModel (λ ds. (i : ℕ) → i < length ds → IsInRange 48 57 (get_or ds i 0)) (digits_value 10)
by_index = numerals_by_value _ tells_by_index

-- the first bytes, as digits
pub front_digits : (count : ℕ) (text : List ℕ) → AreDigits count text → AllDigits 10 (take count text)
front_digits count text h = by_index.to (take count text) (λ i l. let within : i < count = omega (arith, l, length-take count text) in rw (get_or-take count text i 0 within) (h.1 i within))

-- few digits are a small number's
pub few_small : (count n : ℕ) (text : List ℕ) → AreDigits count text → count ≤ 10 → n ≡ digits_value 10 (take count text) → n < 10 ^ 10
few_small count n text are few is = omega (arith, is, digits_value_short own (take count text) 10 (front_digits count text are) (omega (arith, length-take count text, few)))

pub next_value : (count n : ℕ) (text : List ℕ) → count < length text → IsInRange 48 57 (get_or text count 0) → n ≡ digits_value 10 (take count text)
    → 10 * n + (get_or text count 0 - 48) ≡ digits_value 10 (take (count + 1) text)
next_value count n text within digit is =
    let e : digit_value (get_or text count 0) + 48 ≡ get_or text count 0 = digit_value_digit (get_or text count 0) digit in
    omega (arith, e, is, digits_value_more 10 text count within)

pub next_digit : (count : ℕ) (text : List ℕ) → count < length text → IsInRange 48 57 (get_or text count 0) → AreDigits count text → AreDigits (count + 1) text
next_digit count text within digit are = (
  omega (arith, within),
  λ i l. elim (cases_lt i count) [
    | inl earlier ↦ are.1 i earlier
    | inr here ↦ let same : i ≡ count = omega (arith, l, here) in subst (λ j. IsInRange 48 57 (get_or text j 0)) (sym same) digit
  ],
)

apart : (c : ℕ) → IsInRange 48 57 c → IsOutOfRange 48 57 c → ⊥
apart c h (inl low) = omega (arith, h.0, low)
apart c h (inr high) = omega (arith, h.1, high)

-- only 0 begins with the digit 0
zero_alone : (n : ℕ) → n < 2 ^ 64 → get_or (decimal n) 0 0 ≡ 48 → length (decimal n) ≡ 1
zero_alone zero small starts = ap length (decimal_digit 0 (omega arith))
zero_alone (suc n) small starts = absurd (omega (arith, first_decimal (suc n) (omega arith) small, starts))

module _ (n : ℕ) (rest text : List ℕ) (word : IsWord n) (ends : LacksDigit rest) (whole : text ≡ decimal n ++ rest) where
  small : n < 2 ^ 64
  small = omega (arith, word)

  size : length text ≡ length (decimal n) + length rest
  size = ap length whole ∙ length-append (decimal n) rest

  -- past a number's digits stands none
  no_more : (count : ℕ) → AreDigits count text → length (decimal n) < count → ⊥
  no_more count are more =
      let left : 0 < length rest = omega (arith, size, are.0, more) in
      let at : get_or text (length (decimal n)) 0 ≡ get_or rest 0 0 = ap (λ t. get_or t (length (decimal n)) 0) whole ∙ seam in
      apart (get_or rest 0 0) (subst (IsInRange 48 57) at (are.1 (length (decimal n)) more)) (ends left)
    where
      seam : get_or (decimal n ++ rest) (length (decimal n)) 0 ≡ get_or rest 0 0
      seam = get_or-append_right (decimal n) rest (length (decimal n)) (length (decimal n)) 0 refl (omega arith) ∙ ap (λ i. get_or rest i 0) (omega arith)

  -- as many digits as the text begins with
  pub same_count : (count : ℕ) → AreDigits count text → LacksDigit (drop count text) → length (decimal n) ≡ count
  same_count count are stop =
      let most : (length (decimal n) < count) → ⊥ = no_more count are in
      let least : (count < length (decimal n)) → ⊥ = λ fewer.
      let left : 0 < length (drop count text) = omega (arith, size, length-drop count text, fewer) in
      let at : get_or (drop count text) 0 0 ≡ get_or (decimal n) count 0 = get_or-drop count text 0 0 ∙ ap (λ t. get_or t (count + 0) 0) whole ∙ get_or_append_left (decimal n) rest 0 (count + 0) (omega arith) ∙ ap (λ i. get_or (decimal n) i 0) (omega arith) in
      apart (get_or (decimal n) count 0) (digits_decimal by_index n small count fewer) (subst (IsOutOfRange 48 57) at (stop left)) in
      omega (arith, most, least)

  pub same_digits : (count : ℕ) → AreDigits count text → LacksDigit (drop count text) → take count text ≡ decimal n
  same_digits count are stop = ap (take count) whole ∙ rw (sym (same_count count are stop)) (take-append_seam (decimal n) rest)

  pub not_too_many : AreDigits 11 text → ⊥
  not_too_many are = no_more 11 are (omega (arith, length-decimal-le 10 n (omega arith) (omega (arith, word)) small))

  pub not_none : (count : ℕ) → AreDigits count text → LacksDigit (drop count text) → count ≡ 0 → ⊥
  not_none count are stop none = omega (arith, same_count count are stop, decimal_nonempty n small, none)

  pub not_padded : (count : ℕ) → AreDigits count text → LacksDigit (drop count text) → 1 < count → get_or text 0 0 ≡ 48 → ⊥
  not_padded count are stop several padded =
      let same = same_count count are stop in
      let first : get_or (decimal n) 0 0 ≡ 48 = sym (ap (λ t. get_or t 0 0) whole ∙ get_or_append_left (decimal n) rest 0 0 (omega (arith, same, several))) ∙ padded in
      omega (arith, same, several, zero_alone n small first)

  pub same_value : (count : ℕ) → AreDigits count text → LacksDigit (drop count text) → digits_value 10 (take count text) ≡ n
  same_value count are stop = ap (digits_value 10) (same_digits count are stop) ∙ digits_value-decimal own n small

  -- where something follows the number, the text is no number itself
  pub not_whole : (m : ℕ) → IsWord m → text ≡ decimal m → 0 < length rest → ⊥
  not_whole m is same some =
      let count : length text ≡ length (decimal m) = ap length same in
      no_more (length (decimal m)) (omega (arith, count), λ i l. rw same (digits_decimal by_index m (omega (arith, is)) i l)) (omega (arith, size, count, some))

-- digits that no zero leads are a number's
pub spelled : (count value : ℕ) (text : List ℕ) → AreDigits count text → 0 < count → (1 < count → get_or text 0 0 ≡ 48 → ⊥) → value ≡ digits_value 10 (take count text) → IsWord value → decimal value ≡ take count text
spelled count value text are some unpadded is word =
    let size : length (take count text) ≡ count = omega (arith, length-take count text, are.0) in
    let alone : get_or (take count text) 0 0 ≡ 48 → length (take count text) ≡ 1 = λ padded. let single : (1 < count) → ⊥ = λ several. unpadded several (sym (get_or-take count text 0 0 some) ∙ padded) in omega (arith, size, some, single) in
    ap decimal is ∙ decimal-digits_value own (take count text) (front_digits count text are) (omega (arith, size, some)) alone (omega (arith, is, word))
