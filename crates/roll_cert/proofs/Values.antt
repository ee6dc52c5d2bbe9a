-- Values whose texts are joined by a byte that none of them has, cut again.
use Rattle.std.proofs.Common.{◌≡◌, ◌≤◌, ◌++◌, append_assoc, flat_map, take, ℕ, zero, suc, ◌<◌, ◌==◌, List, [], ◌∷◌, refl, sym, ap, ◌∙◌, arith, get_or, length, map}
use Rattle.std.specs.List.{slice_split, join_with_byte, AllByRecursion}
use Rattle.std.proofs.lemmas.List.{append-nil, length-map, take_all}
use Rattle.std.proofs.lemmas.List.Splits.{join_with_byte-slice_split}
use Rattle.roll_text.specs.Lines.{Lacks}
use Rattle.roll_text.proofs.Joined.{split-fields}

pub all-lack : {A : Type 0} (c : ℕ) (Fits : A → Type 0) (spelling : A → List ℕ) → ((a : A) → Fits a → Lacks c (spelling a)) → (values : List A) → AllByRecursion Fits values → AllByRecursion (Lacks c) (map spelling values)
all-lack c Fits spelling lacking [] h = tt
all-lack c Fits spelling lacking (a ∷ values) h = (lacking a h.0, all-lack c Fits spelling lacking values h.1)

pub value_at : {A : Type 0} (Fits : A → Type 0) (spelling : A → List ℕ) (values : List A) (i : ℕ) → AllByRecursion Fits values → i < length values → (a : A) × Fits a × (get_or (map spelling values) i [] ≡ spelling a)
value_at Fits spelling [] i h l = absurd (omega arith)
value_at Fits spelling (a ∷ values) zero h l = (a, h.0, refl)
value_at Fits spelling (a ∷ values) (suc i) h l = value_at Fits spelling values i h.1 (omega arith)

pub map-injective : {A : Type 0} (Fits : A → Type 0) (spelling : A → List ℕ) → ((a b : A) → Fits a → Fits b → spelling a ≡ spelling b → a ≡ b)
    → (xs ys : List A) → AllByRecursion Fits xs → AllByRecursion Fits ys → map spelling xs ≡ map spelling ys → xs ≡ ys
map-injective Fits spelling same [] [] h k e = refl
map-injective Fits spelling same [] (y ∷ ys) h k e = cc
map-injective Fits spelling same (x ∷ xs) [] h k e = cc
map-injective Fits spelling same (x ∷ xs) (y ∷ ys) h k e =
    let first : x ≡ y = same x y h.0 k.0 (cc) in
    let more : xs ≡ ys = map-injective Fits spelling same xs ys h.1 k.1 (cc) in cc

module _ {A : Type 0} (c : ℕ) (Fits : A → Type 0) (spelling : A → List ℕ) (lacking : (a : A) → Fits a → Lacks c (spelling a)) where
  pub split-values : (values : List A) → 0 < length values → AllByRecursion Fits values → slice_split (λ b. b == c) (join_with_byte c (map spelling values)) ≡ map spelling values
  split-values values some h = split-fields c (map spelling values) (omega (arith, length-map values spelling)) (all-lack c Fits spelling lacking values h)

  -- the parts of a text that values have
  pub parts_of : (text : List ℕ) (parts : List (List ℕ)) (values : List A) → parts ≡ slice_split (λ b. b == c) text → 0 < length values → AllByRecursion Fits values → text ≡ join_with_byte c (map spelling values) → parts ≡ map spelling values
  parts_of text parts values cut some h e = cut ∙ ap (slice_split (λ b. b == c)) e ∙ split-values values some h

  pub count_of : (text : List ℕ) (parts : List (List ℕ)) (values : List A) → parts ≡ slice_split (λ b. b == c) text → 0 < length values → AllByRecursion Fits values → text ≡ join_with_byte c (map spelling values) → length parts ≡ length values
  count_of text parts values cut some h e = ap length (parts_of text parts values cut some h e) ∙ length-map values spelling

  -- a part is no value's
  pub no_values : (text : List ℕ) (parts : List (List ℕ)) (i : ℕ) → parts ≡ slice_split (λ b. b == c) text → i < length parts → ((a : A) → Fits a → get_or parts i [] ≡ spelling a → ⊥)
      → (values : List A) → 0 < length values → AllByRecursion Fits values → text ≡ join_with_byte c (map spelling values) → ⊥
  no_values text parts i cut within none values some h e =
      let same = parts_of text parts values cut some h e in
      let n : length parts ≡ length values = ap length same ∙ length-map values spelling in
      let found = value_at Fits spelling values i h (omega arith) in
      none found.0 found.1 (ap (λ t. get_or t i []) same ∙ found.2)

  pub joined-injective : ((a b : A) → Fits a → Fits b → spelling a ≡ spelling b → a ≡ b)
      → (xs ys : List A) → 0 < length xs → 0 < length ys → AllByRecursion Fits xs → AllByRecursion Fits ys → join_with_byte c (map spelling xs) ≡ join_with_byte c (map spelling ys) → xs ≡ ys
  joined-injective same xs ys somex somey h k e =
      map-injective Fits spelling same xs ys h k (sym (split-values xs somex h) ∙ ap (slice_split (λ b. b == c)) e ∙ split-values ys somey k)

-- all parts are values'
pub joined_from : (c : ℕ) (text : List ℕ) (parts texts : List (List ℕ)) → parts ≡ slice_split (λ b. b == c) text → texts ≡ parts → text ≡ join_with_byte c texts
joined_from c text parts texts cut e = sym (join_with_byte-slice_split c text) ∙ ap (join_with_byte c) (sym (e ∙ cut))

-- what follows the first of joined values
abbrev pub joined_more : {A : Type 0} → ℕ → (A → List ℕ) → List A → List ℕ
joined_more c spelling values = flat_map (λ value. c ∷ spelling value) values

pub joined-cons : {A : Type 0} (c : ℕ) (spelling : A → List ℕ) (a : A) (values : List A) → join_with_byte c (map spelling (a ∷ values)) ≡ spelling a ++ joined_more c spelling values
joined-cons c spelling a [] = sym (append-nil (spelling a))
joined-cons c spelling a (b ∷ values) = ap (λ t. spelling a ++ c ∷ t) (joined-cons c spelling b values)

-- joined values that were written one after another
pub joined_written : {A : Type 0} (c : ℕ) (spelling : A → List ℕ) (old first out : List ℕ) (a : A) (others : List A) (count : ℕ) → first ≡ old ++ spelling a → out ≡ first ++ joined_more c spelling (take count others) → length others ≤ count
    → out ≡ old ++ join_with_byte c (map spelling (a ∷ others))
joined_written c spelling old first out a others count e f all =
    f ∙ ap (λ t. t ++ joined_more c spelling (take count others)) e
    ∙ append_assoc old (spelling a) (joined_more c spelling (take count others))
    ∙ ap (λ t. old ++ (spelling a ++ joined_more c spelling t)) (take_all count others all)
    ∙ ap (λ t. old ++ t) (sym (joined-cons c spelling a others))
