-- Counting paths: distinct lists, and filters of them.
use Rattle.std.proofs.Common.{◌≡◌, ℕ, zero, suc, ◌+◌, ◌-◌, ◌≤◌, List, [], ◌∷◌, ◌++◌, length, refl, ap, sym, ◌∙◌, Bool, true, false, arith, take, subst, inl, inr, length-take, min}
use Rattle.std.specs.Prelude.{◌⊎◌, filter, not, ◌&&◌}
use Rattle.std.proofs.lemmas.Bool.{false≢true, cases_Bool}
use Rattle.roll_frame.specs.Cells.{Rows}
use Rattle.roll_frame.specs.Paths.{prefixes}
use Rattle.roll_laws.proofs.Saved.{In, in_either}
use Rattle.roll_laws.proofs.Prefixes.{in_prefixes, in_filter}

pub filter_takes : (p : Rows → Bool) (x : Rows) (xs : List Rows) → p x ≡ true → filter p (x ∷ xs) ≡ x ∷ filter p xs
filter_takes p x xs e = rw e refl

pub filter_skips : (p : Rows → Bool) (x : Rows) (xs : List Rows) → p x ≡ false → filter p (x ∷ xs) ≡ filter p xs
filter_skips p x xs e = rw e refl

abbrev number : (Rows → Bool) → List Rows → ℕ
number p xs = length (filter p xs)

number_takes : (p : Rows → Bool) (x : Rows) (xs : List Rows) → p x ≡ true → number p (x ∷ xs) ≡ suc (number p xs)
number_takes p x xs e = ap length (filter_takes p x xs e)

number_skips : (p : Rows → Bool) (x : Rows) (xs : List Rows) → p x ≡ false → number p (x ∷ xs) ≡ number p xs
number_skips p x xs e = ap length (filter_skips p x xs e)

pub filter_le : (p r : Rows → Bool) (xs : List Rows) → ((q : Rows) → In q xs → p q ≡ true → r q ≡ true) → length (filter p xs) ≤ length (filter r xs)
filter_le p r [] f = omega arith
filter_le p r (x ∷ xs) f = go (cases_Bool (p x)) (cases_Bool (r x)) (filter_le p r xs (λ q i. f q (inr i)))
  where
    go : (p x ≡ true) ⊎ (p x ≡ false) → (r x ≡ true) ⊎ (r x ≡ false) → number p xs ≤ number r xs → number p (x ∷ xs) ≤ number r (x ∷ xs)
    go (inl a) (inl b) h = omega (arith, number_takes p x xs a, number_takes r x xs b)
    go (inl a) (inr b) h = absurd (false≢true (sym b ∙ f x (inl refl) a))
    go (inr a) (inl b) h = omega (arith, number_skips p x xs a, number_takes r x xs b)
    go (inr a) (inr b) h = omega (arith, number_skips p x xs a, number_skips r x xs b)

pub filter_short : (p : Rows → Bool) (xs : List Rows) → length (filter p xs) ≤ length xs
filter_short p [] = omega arith
filter_short p (x ∷ xs) = go (cases_Bool (p x)) (filter_short p xs)
  where
    go : (p x ≡ true) ⊎ (p x ≡ false) → number p xs ≤ length xs → number p (x ∷ xs) ≤ suc (length xs)
    go (inl a) h = omega (arith, number_takes p x xs a)
    go (inr a) h = omega (arith, number_skips p x xs a)

pub filter_none : (p : Rows → Bool) (xs : List Rows) → ((q : Rows) → In q xs → p q ≡ true → ⊥) → length (filter p xs) ≡ 0
filter_none p [] f = refl
filter_none p (x ∷ xs) f = go (cases_Bool (p x)) (filter_none p xs (λ q i. f q (inr i)))
  where
    go : (p x ≡ true) ⊎ (p x ≡ false) → number p xs ≡ 0 → number p (x ∷ xs) ≡ 0
    go (inl a) h = absurd (f x (inl refl) a)
    go (inr a) h = number_skips p x xs a ∙ h

-- what passes a test, with another or without it
pub filter_parts : (p b : Rows → Bool) (xs : List Rows) → length (filter p xs) ≡ length (filter (λ q. p q && not (b q)) xs) + length (filter (λ q. p q && b q) xs)
filter_parts p b [] = refl
filter_parts p b (x ∷ xs) = go (p x) (b x) refl refl (filter_parts p b xs)
  where
    go : (s t : Bool) → p x ≡ s → b x ≡ t → number p xs ≡ number (λ q. p q && not (b q)) xs + number (λ q. p q && b q) xs → number p (x ∷ xs) ≡ number (λ q. p q && not (b q)) (x ∷ xs) + number (λ q. p q && b q) (x ∷ xs)
    go true true e f h = omega (arith, number_takes p x xs e, number_skips (λ q. p q && not (b q)) x xs (rw (e, f) refl), number_takes (λ q. p q && b q) x xs (rw (e, f) refl))
    go true false e f h = omega (arith, number_takes p x xs e, number_takes (λ q. p q && not (b q)) x xs (rw (e, f) refl), number_skips (λ q. p q && b q) x xs (rw (e, f) refl))
    go false t e f h = omega (arith, number_skips p x xs e, number_skips (λ q. p q && not (b q)) x xs (rw e refl), number_skips (λ q. p q && b q) x xs (rw e refl))

abbrev pub Distinct : List Rows → Type 0
Distinct [] = Unit {0}
Distinct (x ∷ xs) = (In x xs → ⊥) × Distinct xs

pub distinct_append : (xs ys : List Rows) → Distinct xs → Distinct ys → ((q : Rows) → In q xs → In q ys → ⊥) → Distinct (xs ++ ys)
distinct_append [] ys d e f = e
distinct_append (x ∷ xs) ys d e f = (λ i. go (in_either x xs ys i), distinct_append xs ys d.1 e (λ q i j. f q (inr i) j))
  where
    go : In x xs ⊎ In x ys → ⊥
    go (inl i) = d.0 i
    go (inr j) = f x (inl refl) j

pub distinct_filter : (p : Rows → Bool) (xs : List Rows) → Distinct xs → Distinct (filter p xs)
distinct_filter p [] d = tt
distinct_filter p (x ∷ xs) d = go (cases_Bool (p x)) (distinct_filter p xs d.1)
  where
    go : (p x ≡ true) ⊎ (p x ≡ false) → Distinct (filter p xs) → Distinct (filter p (x ∷ xs))
    go (inl e) r = subst Distinct (sym (filter_takes p x xs e)) (λ i. d.0 (in_filter p x xs i).0, r)
    go (inr e) r = subst Distinct (sym (filter_skips p x xs e)) r

pub distinct_prefixes : (q : Rows) (d k : ℕ) → k ≤ length q - d → Distinct (prefixes q d k)
distinct_prefixes q d zero h = tt
distinct_prefixes q d (suc k) h =
    distinct_append (prefixes q d k) (take (d + suc k) q ∷ []) (distinct_prefixes q d k (omega arith)) (λ i. i, tt) apart
  where
    apart : (p : Rows) → In p (prefixes q d k) → In p (take (d + suc k) q ∷ []) → ⊥
    apart p i (inr j) = j
    apart p i (inl e) =
        let r = in_prefixes p q d k i in
        let same = ap length (sym e ∙ r.3) in
        let i_low : r.0 ≤ d + k = r.2 in
        let long : d + suc k ≤ length q = omega arith in
        let a : length (take (d + suc k) q) ≡ min (d + suc k) (length q) = length-take (d + suc k) q in
        let b : length (take r.0 q) ≡ min r.0 (length q) = length-take r.0 q in
        let n : ℕ = r.0 in
        let c : min (d + suc k) (length q) ≡ min n (length q) = sym a ∙ same ∙ b in
        absurd (omega arith)

-- one place of a list taken out
abbrev Without : Rows → List Rows → List Rows → Type 0
Without x ys zs = (length ys ≡ suc (length zs)) × ((q : Rows) → In q ys → (q ≡ x) ⊎ In q zs)

here : (x y q : Rows) (ys : List Rows) → x ≡ y → In q (y ∷ ys) → (q ≡ x) ⊎ In q ys
here x y q ys e (inl s) = inl (s ∙ sym e)
here x y q ys e (inr i) = inr i

deeper : (x y q : Rows) (ys zs : List Rows) → (In q ys → (q ≡ x) ⊎ In q zs) → In q (y ∷ ys) → (q ≡ x) ⊎ In q (y ∷ zs)
deeper x y q ys zs f (inl s) = inr (inl s)
deeper x y q ys zs f (inr i) = go (f i)
  where
    go : (q ≡ x) ⊎ In q zs → (q ≡ x) ⊎ In q (y ∷ zs)
    go (inl e) = inl e
    go (inr j) = inr (inr j)

without : (x : Rows) (ys : List Rows) → In x ys → (zs : List Rows) × Without x ys zs
without x [] h = absurd h
without x (y ∷ ys) (inl e) = (ys, (refl, λ q i. here x y q ys e i))
without x (y ∷ ys) (inr h) =
    let r = without x ys h in
    (y ∷ r.0, (ap suc r.1.0, λ q i. deeper x y q ys r.0 (r.1.1 q) i))

other : (x q : Rows) (xs zs : List Rows) → (In x xs → ⊥) → In q xs → (q ≡ x) ⊎ In q zs → In q zs
other x q xs zs apart i (inl e) = absurd (apart (subst (λ (p : Rows). In p xs) e i))
other x q xs zs apart i (inr j) = j

-- a distinct list is no longer than one that has all of it
pub distinct_short : (xs ys : List Rows) → Distinct xs → ((q : Rows) → In q xs → In q ys) → length xs ≤ length ys
distinct_short [] ys d f = omega arith
distinct_short (x ∷ xs) ys d f =
    let r = without x ys (f x (inl refl)) in
    let rest : length xs ≤ length r.0 = distinct_short xs r.0 d.1 (λ q i. other x q xs r.0 d.0 i (r.1.1 q (f q (inr i)))) in
    omega (arith, r.1.0, rest)
