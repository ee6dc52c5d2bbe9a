-- The beginnings of rows, and when paths are these.
use Rattle.std.proofs.Common.{◌≡◌, ℕ, zero, suc, ◌+◌, ◌≤◌, ◌<◌, List, [], ◌∷◌, ◌++◌, length, length-append, length-take, take, refl, sym, ap, subst, ◌∙◌, arith, inl, inr}
use Rattle.std.specs.Prelude.{◌⊎◌, All}
use Rattle.std.specs.List.Sorted.{IsPermutation}
use Rattle.std.proofs.lemmas.List.Elements.{All-from_recursion, All-push}
use Rattle.std.proofs.lemmas.List.Sorted.{IsPermutation-cons, IsPermutation-middle, IsPermutation-refl, IsPermutation-sym, IsPermutation-to_front, IsPermutation-trans, length_permutation}
use Rattle.roll_frame.specs.Cells.{Rows}
use Rattle.roll_laws.proofs.Saved.{In}
use Rattle.roll_plan.specs.Spelled.{beginnings}

pub length-beginnings : (rows : Rows) (n : ℕ) → length (beginnings rows n) ≡ n
length-beginnings rows zero = refl
length-beginnings rows (suc n) = omega (arith, length-append (beginnings rows n) (take n rows ∷ []), length-beginnings rows n)

-- one more
pub beginnings_more : (rows : Rows) (n : ℕ) → beginnings rows (n + 1) ≡ beginnings rows n ++ take n rows ∷ []
beginnings_more rows n = let next : n + 1 ≡ suc n = omega arith in ap (beginnings rows) next

-- none ends after the rows do
pub ends_low : (base end : ℕ) (rows : Rows) (n : ℕ) → end ≡ base + length rows → All (λ (p : Rows). base + length p ≤ end) (beginnings rows n)
ends_low base end rows zero e = All-from_recursion (λ (p : Rows). base + length p ≤ end) [] tt
ends_low base end rows (suc n) e = All-push (λ (p : Rows). base + length p ≤ end) (beginnings rows n) (take n rows) (ends_low base end rows n e) (omega (arith, length-take n rows, e))

-- these paths without one of them
record IsWithout (path : Rows) (paths : List Rows) : Type 0 where
  rest : List Rows
  is : IsPermutation paths (path ∷ rest)
  others : (q : Rows) → In q paths → (q ≡ path) ⊎ In q rest

without : (path : Rows) (paths : List Rows) → In path paths → IsWithout path paths
without path [] i = absurd i
without path (p ∷ ps) (inl e) =
    record {
      rest = ps;
      is = subst (λ (q : Rows). IsPermutation (p ∷ ps) (q ∷ ps)) (sym e) (IsPermutation-refl (p ∷ ps));
      others = λ q i. elim i as (λ _. (q ≡ path) ⊎ In q ps) [ inl f ↦ inl (f ∙ sym e) | inr j ↦ inr j ];
    }
without path (p ∷ ps) (inr there) =
    let w = without path ps there in
    record {
      rest = p ∷ w.rest;
      is = IsPermutation-trans (p ∷ ps) (p ∷ path ∷ w.rest) (path ∷ p ∷ w.rest) (IsPermutation-cons p ps (path ∷ w.rest) w.is) (IsPermutation-middle (p ∷ []) path w.rest);
      others = λ q i. elim i as (λ _. (q ≡ path) ⊎ In q (p ∷ w.rest)) [ inl f ↦ inr (inl f) | inr j ↦ behind q p w.rest (w.others q j) ];
    }
  where
    behind : (q r : Rows) (rest : List Rows) → (q ≡ path) ⊎ In q rest → (q ≡ path) ⊎ In q (r ∷ rest)
    behind q r rest (inl f) = inl f
    behind q r rest (inr j) = inr (inr j)

-- so many paths, among which the first so many beginnings are, are those
pub are_beginnings : (rows : Rows) (n : ℕ) (paths : List Rows) → n ≤ length rows + 1 → length paths ≡ n → ((k : ℕ) → k < n → In (take k rows) paths) → IsPermutation paths (beginnings rows n)
are_beginnings rows zero [] low count all = IsPermutation-refl []
are_beginnings rows zero (p ∷ ps) low count all = absurd (omega (arith, count))
are_beginnings rows (suc n) paths low count all =
    let w = without (take n rows) paths (all n (omega arith)) in
    let fewer : length w.rest ≡ n = omega (arith, length_permutation paths (take n rows ∷ w.rest) w.is, count) in
    let rest = are_beginnings rows n w.rest (omega (arith, low)) fewer (λ k below. shorter k below w.rest (w.others (take k rows) (all k (omega (arith, below))))) in
    IsPermutation-trans paths (take n rows ∷ w.rest) (beginnings rows n ++ take n rows ∷ []) w.is
    (IsPermutation-trans (take n rows ∷ w.rest) (take n rows ∷ beginnings rows n) (beginnings rows n ++ take n rows ∷ []) (IsPermutation-cons (take n rows) w.rest (beginnings rows n) rest)
    (IsPermutation-sym (beginnings rows n ++ take n rows ∷ []) (take n rows ∷ beginnings rows n) (IsPermutation-to_front (beginnings rows n) (take n rows))))
  where
    shorter : (k : ℕ) → k < n → (xs : List Rows) → (take k rows ≡ take n rows) ⊎ In (take k rows) xs → In (take k rows) xs
    shorter k below xs (inr i) = i
    shorter k below xs (inl e) = absurd (omega (arith, below, low, ap (λ (l : Rows). length l) e, length-take k rows, length-take n rows))
