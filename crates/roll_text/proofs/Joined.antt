-- Fields that lack a byte, joined by it and cut again.
use Rattle.std.proofs.Common.{◌≡◌, ℕ, ◌<◌, ◌^◌, ◌==◌, List, [], ◌∷◌, false, Option, Some, None, sym, ap, ◌∙◌, rules, tests, arith, length, Bool, true, ◌&&◌, Bor, get_or, map}
use Rattle.std.specs.List.{slice_split, join_with_byte, AllByRecursion}
use Rattle.std.specs.Fmt.{decimal}
use Rattle.std.proofs.lemmas.Fmt.{digits_decimal}
use Rattle.std.proofs.lemmas.Str.Parse.{numerals_by_value, tells_digits, not_in_digits}
use Rattle.std.proofs.lemmas.List.Splits.{slice_split_none, slice_split_at, join_with_byte-slice_split}
use Rattle.std.proofs.lemmas.List.Elements.{All-from_get_or, All-nil, All-cons, All-append}
use Rattle.std.proofs.lemmas.Bool.{and_parts}
use Rattle.std.proofs.lemmas.List.{get_or-map}
use Rattle.std.specs.Prelude.{nat_le}
use Rattle.roll_text.specs.Lines.{Lacks}
use Rattle.roll_text.specs.Text.{Reads}

not_equal : (a b : ℕ) → (a ≡ b → ⊥) → (a == b) ≡ false
not_equal a b apart = search (rules, tests)

-- digits are none of the bytes below them: spaces, commas, ends of lines
pub decimal-lacks : (c n : ℕ) → c < 48 → n < 2 ^ 64 → Lacks c (decimal n)
decimal-lacks c n low small =
    let own = numerals_by_value _ tells_digits in
    let apart = not_in_digits own (decimal n) c (digits_decimal own n small) (λ h. omega arith) in
    All-from_get_or (λ x. (x == c) ≡ false) (decimal n) 0 (λ i l. not_equal _ _ (apart i l))

-- whether no byte is below a comma's
abbrev pub are_high : List ℕ → Bool
are_high [] = true
are_high (b ∷ bs) = nat_le 44 b && are_high bs

pub high-lacks : (c : ℕ) → c < 44 → (bytes : List ℕ) → are_high bytes ≡ true → Lacks c bytes
high-lacks c low [] h = All-nil _
high-lacks c low (b ∷ bs) h = let parts = and_parts (nat_le 44 b) (are_high bs) h in All-cons (λ x. (x == c) ≡ false) b bs (search (rules, tests)) (high-lacks c low bs parts.1)

-- fields that lack a byte lack it when they are joined by another one
pub join-lacks : (c separator : ℕ) (fields : List (List ℕ)) → (separator == c) ≡ false → AllByRecursion (Lacks c) fields → Lacks c (join_with_byte separator fields)
join-lacks c separator [] apart h = All-nil _
join-lacks c separator (x ∷ []) apart h = h.0
join-lacks c separator (x ∷ y ∷ ys) apart h =
    All-append (λ b. (b == c) ≡ false) x (separator ∷ join_with_byte separator (y ∷ ys)) h.0 (All-cons (λ b. (b == c) ≡ false) separator _ apart (join-lacks c separator (y ∷ ys) apart h.1))

-- fields that lack the separator are joined by it and cut again
pub split-join : (c : ℕ) (x : List ℕ) (xs : List (List ℕ)) → AllByRecursion (Lacks c) (x ∷ xs) → slice_split (λ b. b == c) (join_with_byte c (x ∷ xs)) ≡ x ∷ xs
split-join c x [] h = slice_split_none _ x h.0
split-join c x (y ∷ ys) h = slice_split_at _ x c (join_with_byte c (y ∷ ys)) h.0 (search rules) ∙ ap (λ t. x ∷ t) (split-join c y ys h.1)

pub split-fields : (c : ℕ) (fields : List (List ℕ)) → 0 < length fields → AllByRecursion (Lacks c) fields → slice_split (λ b. b == c) (join_with_byte c fields) ≡ fields
split-fields c [] some h = absurd (omega arith)
split-fields c (x ∷ xs) some h = split-join c x xs h

-- a value that is read from the fields of a line is read from the line
pub reads-joined : {X : Type 0} (c : ℕ) (Fits : X → Type 0) (fields_of : X → List (List ℕ))
    → ((x : X) → Fits x → (0 < length (fields_of x)) × AllByRecursion (Lacks c) (fields_of x))
    → (line : List ℕ) (value : Option X) → Reads Fits fields_of (slice_split (λ b. b == c) line) value
    → Reads Fits (λ x. join_with_byte c (fields_of x)) line value
reads-joined c Fits fields_of lacking line (Some x) h = (h.0, sym (join_with_byte-slice_split c line) ∙ ap (join_with_byte c) h.1)
reads-joined c Fits fields_of lacking line None h = λ x fits e.
    h x fits (ap (slice_split (λ b. b == c)) e ∙ split-fields c (fields_of x) (lacking x fits).0 (lacking x fits).1)

-- a field's text
pub text_at : (fields : List (Bor (List ℕ))) (texts : List (List ℕ)) (i : ℕ) (d : Bor (List ℕ)) → map (λ field. field.now) fields ≡ texts → i < length fields → (get_or fields i d).now ≡ get_or texts i []
text_at fields texts i d e h = sym (get_or-map (λ field. field.now) fields i d [] h) ∙ ap (λ t. get_or t i []) e
