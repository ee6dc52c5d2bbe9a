-- The lines of a text.
use Rattle.std.proofs.Common.{◌≡◌, ℕ, ◌<◌, ◌==◌, ◌++◌, ◌⊎◌, inl, inr, Bool, true, List, [], ◌∷◌, false, refl, sym, ap, ◌∙◌, subst, rules, arith, append_assoc, length, map}
use Rattle.std.specs.List.{onto_first, AllByRecursion}
use Rattle.std.proofs.lemmas.List.{append-nil, append_cancel_left, append_cancel_right}
use Rattle.std.proofs.lemmas.Grind.{flat_map-append}
use Rattle.std.proofs.lemmas.List.Elements.{recursion_from_All, All-nil, All-cons}
use Rattle.roll_text.specs.Lines.{Lacks, ended, text_of, lines_of}

-- no byte ends a line, by recursion
abbrev IsLine : List ℕ → Type 0
IsLine bytes = AllByRecursion (λ b. (b == 10) ≡ false) bytes

lines_of-first : (line rest : List ℕ) → IsLine line → lines_of (ended line ++ rest) ≡ ended line ∷ lines_of rest
lines_of-first [] rest h = refl
lines_of-first (b ∷ bs) rest h = rw h.0 (ap (onto_first b) (lines_of-first bs rest h.1))

lines_of-only : (line : List ℕ) → IsLine line → 0 < length line → lines_of line ≡ line ∷ []
lines_of-only [] h some = absurd (omega arith)
lines_of-only (b ∷ []) h some = rw h.0 refl
lines_of-only (b ∷ c ∷ cs) h some = rw h.0 (ap (onto_first b) (lines_of-only (c ∷ cs) h.1 (omega arith)))

not_ended : (line other : List ℕ) → IsLine line → line ≡ ended other → ⊥
not_ended [] [] h e = cc
not_ended [] (c ∷ cs) h e = cc
not_ended (b ∷ bs) [] h e = let ten : b ≡ 10 = cc in let yes : (10 == 10) ≡ false = subst (λ (x : ℕ). (x == 10) ≡ false) ten h.0 in cc
not_ended (b ∷ bs) (c ∷ cs) h e = not_ended bs cs h.1 (cc)

-- a line and its end come first
pub lines_of-ended : (line rest : List ℕ) → Lacks 10 line → lines_of (ended line ++ rest) ≡ ended line ∷ lines_of rest
lines_of-ended line rest h = lines_of-first line rest (recursion_from_All (λ b. (b == 10) ≡ false) line h)

-- what has no end is one line
pub lines_of-last : (line : List ℕ) → Lacks 10 line → 0 < length line → lines_of line ≡ line ∷ []
lines_of-last line h some = lines_of-only line (recursion_from_All (λ b. (b == 10) ≡ false) line h) some

-- a line without its end is no line with one
pub no_end : (line other : List ℕ) → Lacks 10 line → line ≡ ended other → ⊥
no_end line other h e = not_ended line other (recursion_from_All (λ b. (b == 10) ≡ false) line h) e

pub ended-injective : (a b : List ℕ) → ended a ≡ ended b → a ≡ b
ended-injective a b e = append_cancel_right a b (10 ∷ []) e

pub lines_of-text_of : (lines : List (List ℕ)) (rest : List ℕ) → AllByRecursion (Lacks 10) lines → lines_of (text_of lines ++ rest) ≡ map ended lines ++ lines_of rest
lines_of-text_of [] rest h = refl
lines_of-text_of (line ∷ lines) rest h = ap lines_of (append_assoc (ended line) (text_of lines) rest)
    ∙ lines_of-ended line (text_of lines ++ rest) h.0
    ∙ ap (λ t. ended line ∷ t) (lines_of-text_of lines rest h.1)

pub lines_of-whole : (lines : List (List ℕ)) → AllByRecursion (Lacks 10) lines → lines_of (text_of lines) ≡ map ended lines
lines_of-whole lines h = ap lines_of (sym (append-nil (text_of lines))) ∙ lines_of-text_of lines [] h ∙ append-nil (map ended lines)

pub map-ended-injective : (xs ys : List (List ℕ)) → map ended xs ≡ map ended ys → xs ≡ ys
map-ended-injective [] [] e = refl
map-ended-injective [] (y ∷ ys) e = cc
map-ended-injective (x ∷ xs) [] e = cc
map-ended-injective (x ∷ xs) (y ∷ ys) e =
    let same : x ≡ y = ended-injective x y (cc) in
    let more : xs ≡ ys = map-ended-injective xs ys (cc) in cc

-- a text has one list of lines
pub text_of-injective : (xs ys : List (List ℕ)) → AllByRecursion (Lacks 10) xs → AllByRecursion (Lacks 10) ys → text_of xs ≡ text_of ys → xs ≡ ys
text_of-injective xs ys h k e = map-ended-injective xs ys (sym (lines_of-whole xs h) ∙ ap lines_of e ∙ lines_of-whole ys k)

-- one more line is cut off
pub text_of-next : (text rest line after : List ℕ) (done : List (List ℕ)) → text ≡ text_of done ++ rest → rest ≡ ended line ++ after → text ≡ text_of (done ++ (line ∷ [])) ++ after
text_of-next text rest line after done e f = e ∙ ap (λ t. text_of done ++ t) f
    ∙ sym (append_assoc (text_of done) (ended line) after)
    ∙ ap (λ t. t ++ after) (ap (λ t. text_of done ++ t) (sym (append-nil (ended line))) ∙ sym (flat_map-append ended done (line ∷ [])))

cut_at : (test : Bool) (b : ℕ) (bs : List ℕ) → (b == 10) ≡ test
    → Lacks 10 bs ⊎ ((line : List ℕ) × (after : List ℕ) × Lacks 10 line × (bs ≡ ended line ++ after))
    → Lacks 10 (b ∷ bs) ⊎ ((line : List ℕ) × (after : List ℕ) × Lacks 10 line × (b ∷ bs ≡ ended line ++ after))
cut_at true b bs is rest = inr ([], bs, All-nil _, (let ten : b ≡ 10 = search rules in ap (λ t. t ∷ bs) ten))
cut_at false b bs is (inl h) = inl (All-cons (λ x. (x == 10) ≡ false) b bs is h)
cut_at false b bs is (inr h) = inr (b ∷ h.0, h.1, All-cons (λ x. (x == 10) ≡ false) b h.0 is h.2, ap (λ t. b ∷ t) h.3)

-- a text has a first line with its end, or none
pub first_line : (text : List ℕ) → Lacks 10 text ⊎ ((line : List ℕ) × (after : List ℕ) × Lacks 10 line × (text ≡ ended line ++ after))
first_line [] = inl (All-nil _)
first_line (b ∷ bs) = cut_at (b == 10) b bs refl (first_line bs)

-- a text has one first line
pub first_line-unique : (a b x y : List ℕ) → Lacks 10 a → Lacks 10 b → ended a ++ x ≡ ended b ++ y → (a ≡ b) × (x ≡ y)
first_line-unique a b x y h k e =
    let lines : ended a ∷ lines_of x ≡ ended b ∷ lines_of y = sym (lines_of-ended a x h) ∙ ap lines_of e ∙ lines_of-ended b y k in
    let same : a ≡ b = ended-injective a b (cc) in
    (same, append_cancel_left (ended b) x y (ap (λ t. ended t ++ x) (sym same) ∙ e))
