-- Lists of names, and what is there under each.
use Rattle.std.proofs.Common.{◌≡◌, ◌⊎◌, ◌||◌, ◌&&◌, ℕ, List, [], ◌∷◌, ◌++◌, Bool, true, false, cond, Option, Some, None, refl, sym, ap, ◌∙◌, inl, inr}
use Rattle.std.specs.List.{filter, filter_map}
use Rattle.std.proofs.lemmas.Bool.{cases_Bool, or_cases, or_left, or_right, eqb-true, eq-eqb}
use Rattle.std.proofs.lemmas.List.Folds.{list_any-append}
use Rattle.std.proofs.Common.{eqb}
use Rattle.std.proofs.Math.Bool.{and-false, or-false}
use Rattle.roll_tree.specs.Layout.{has_name}

pub option_cases : {A : Type 0} (o : Option A) → (o ≡ None) ⊎ ((a : A) × (o ≡ Some a))
option_cases None = inl refl
option_cases (Some a) = inr (a, refl)

pub has_name-push : (names : List ℕ) (n name : ℕ) → has_name (names ++ n ∷ []) name ≡ (has_name names name || eqb n name)
has_name-push names n name = list_any-append (λ m. eqb m name) names (n ∷ []) ∙ ap (λ (b : Bool). has_name names name || b) (or-false (eqb n name))

pub has_itself : (names : List ℕ) (name : ℕ) → has_name (names ++ name ∷ []) name ≡ true
has_itself names name = has_name-push names name name ∙ or_right (has_name names name) (eqb name name) (eq-eqb name name refl)

-- a name that is one of more is that one, or was among the others
pub has_name_cases : (names : List ℕ) (n name : ℕ) → has_name (names ++ n ∷ []) name ≡ true → (has_name names name ≡ true) ⊎ (n ≡ name)
has_name_cases names n name h = go (or_cases (has_name names name) (eqb n name) (sym (has_name-push names n name) ∙ h))
  where
    go : (has_name names name ≡ true) ⊎ (eqb n name ≡ true) → (has_name names name ≡ true) ⊎ (n ≡ name)
    go (inl here) = inl here
    go (inr same) = inr (eqb-true n name same)

pub has_name-front : (names : List ℕ) (n name : ℕ) → has_name names name ≡ true → has_name (names ++ n ∷ []) name ≡ true
has_name-front names n name h = has_name-push names n name ∙ or_left (has_name names name) (eqb n name) h

-- a name that passes a filter is one of those that were there
pub has_name-filter : (live : ℕ → Bool) (names : List ℕ) (name : ℕ) → has_name (filter live names) name ≡ (has_name names name && live name)
has_name-filter live [] name = refl
has_name-filter live (n ∷ names) name = go (cases_Bool (live n)) (cases_Bool (eqb n name)) (has_name-filter live names name)
  where
    kept : live n ≡ true → has_name (filter live (n ∷ names)) name ≡ (eqb n name || has_name (filter live names) name)
    kept e = ap (λ (b : Bool). has_name (cond b (n ∷ filter live names) (filter live names)) name) e

    gone : live n ≡ false → has_name (filter live (n ∷ names)) name ≡ has_name (filter live names) name
    gone e = ap (λ (b : Bool). has_name (cond b (n ∷ filter live names) (filter live names)) name) e

    go : (live n ≡ true) ⊎ (live n ≡ false) → (eqb n name ≡ true) ⊎ (eqb n name ≡ false) → has_name (filter live names) name ≡ (has_name names name && live name) → has_name (filter live (n ∷ names)) name ≡ ((eqb n name || has_name names name) && live name)
    go (inl e) (inl same) ih = kept e ∙ rw same (sym (sym (ap live (eqb-true n name same)) ∙ e))
    go (inl e) (inr differs) ih = kept e ∙ rw differs ih
    go (inr e) (inl same) ih =
        let dead : live name ≡ false = sym (ap live (eqb-true n name same)) ∙ e in
        gone e ∙ rw same (ih ∙ rw dead (and-false (has_name names name)))
    go (inr e) (inr differs) ih = gone e ∙ rw differs ih

-- two functions that agree at the names give the same of them
pub filter_map-same : {Y : Type 0} (f g : ℕ → Option Y) (names : List ℕ) → ((name : ℕ) → has_name names name ≡ true → f name ≡ g name) → filter_map f names ≡ filter_map g names
filter_map-same f g [] same = refl
filter_map-same f g (n ∷ names) same =
    rw (same n (or_left (eqb n n) (has_name names n) (eq-eqb n n refl)), filter_map-same f g names (λ name h. same name (or_right (eqb n name) (has_name names name) h))) refl

-- two tests that agree at the names leave the same
pub filter-same : (p q : ℕ → Bool) (names : List ℕ) → ((name : ℕ) → has_name names name ≡ true → p name ≡ q name) → filter p names ≡ filter q names
filter-same p q [] same = refl
filter-same p q (n ∷ names) same =
    let rest = filter-same p q names (λ name h. same name (or_right (eqb n name) (has_name names name) h)) in
    let first = same n (or_left (eqb n n) (has_name names n) (eq-eqb n n refl)) in
    ap (λ (b : Bool). cond b (n ∷ filter p names) (filter p names)) first ∙ ap (λ (l : List ℕ). cond (q n) (n ∷ l) l) rest
