-- The prefixes that a roll or a graft adds, and sets of paths with all their prefixes.
use Rattle.std.proofs.Common.{◌≡◌, ℕ, zero, suc, ◌+◌, ◌<◌, ◌≤◌, List, [], ◌∷◌, ◌++◌, refl, ap, sym, ◌∙◌, Bool, true, false, arith, take, subst, inl, inr, length-take}
use Rattle.std.specs.Prelude.{◌⊎◌, filter}
use Rattle.std.proofs.lemmas.Bool.{cases_Bool, cases_lt}
use Rattle.std.proofs.lemmas.List.{take-take, take_all}
use Rattle.roll_frame.specs.Cells.{Rows}
use Rattle.roll_frame.specs.Paths.{prefixes}
use Rattle.roll_laws.proofs.Saved.{In, in_left, in_right, in_either}

pub in_prefixes : (p q : Rows) (d k : ℕ) → In p (prefixes q d k) → (i : ℕ) × (d < i) × (i ≤ d + k) × (p ≡ take i q)
in_prefixes p q d zero h = absurd h
in_prefixes p q d (suc k) h = go (in_either p (prefixes q d k) (take (d + suc k) q ∷ []) h) (in_prefixes p q d k)
  where
    go : In p (prefixes q d k) ⊎ In p (take (d + suc k) q ∷ []) → (In p (prefixes q d k) → (i : ℕ) × (d < i) × (i ≤ d + k) × (p ≡ take i q)) → (i : ℕ) × (d < i) × (i ≤ d + suc k) × (p ≡ take i q)
    go (inl i) rest = let r = rest i in (r.0, r.1, omega (arith, r.2), r.3)
    go (inr (inl e)) rest = (d + suc k, omega arith, omega arith, e)
    go (inr (inr e)) rest = absurd e

pub prefixes_in : (q : Rows) (d k i : ℕ) → d < i → i ≤ d + k → In (take i q) (prefixes q d k)
prefixes_in q d zero i a b = absurd (omega arith)
prefixes_in q d (suc k) i a b = go (cases_lt i (d + suc k)) (λ c. prefixes_in q d k i a c)
  where
    go : (i < d + suc k) ⊎ (d + suc k ≤ i) → (i ≤ d + k → In (take i q) (prefixes q d k)) → In (take i q) (prefixes q d k ++ take (d + suc k) q ∷ [])
    go (inl l) rest = in_left (take i q) (prefixes q d k) (take (d + suc k) q ∷ []) (rest (omega arith))
    go (inr l) rest = let e : i ≡ d + suc k = omega arith in in_right (take i q) (prefixes q d k) (take (d + suc k) q ∷ []) (inl (ap (λ n. take n q) e))

pub in_filter : (test : Rows → Bool) (p : Rows) (ps : List Rows) → In p (filter test ps) → In p ps × (test p ≡ true)
in_filter test p [] h = absurd h
in_filter test p (x ∷ xs) h = go (cases_Bool (test x)) (in_filter test p xs)
  where
    Found : Type 0
    Found = In p (x ∷ xs) × (test p ≡ true)

    go : (test x ≡ true) ⊎ (test x ≡ false) → (In p (filter test xs) → In p xs × (test p ≡ true)) → In p (x ∷ xs) × (test p ≡ true)
    go (inr e) rest = let r = rest (rw e at h) in (inr r.0, r.1)
    go (inl e) rest = at (rw e at h)
      where
        at : (p ≡ x) ⊎ In p (filter test xs) → In p (x ∷ xs) × (test p ≡ true)
        at (inl s) = (inl s, ap test s ∙ e)
        at (inr s) = let r = rest s in (inr r.0, r.1)

pub filter_in : (test : Rows → Bool) (p : Rows) (ps : List Rows) → In p ps → test p ≡ true → In p (filter test ps)
filter_in test p [] h t = absurd h
filter_in test p (x ∷ xs) (inl s) t = let e : test x ≡ true = ap test (sym s) ∙ t in subst (In p) (sym (kept_first e)) (inl s)
  where
    kept_first : test x ≡ true → filter test (x ∷ xs) ≡ x ∷ filter test xs
    kept_first f = rw f refl
filter_in test p (x ∷ xs) (inr h) t = go (cases_Bool (test x)) (filter_in test p xs h t)
  where
    go : (test x ≡ true) ⊎ (test x ≡ false) → In p (filter test xs) → In p (filter test (x ∷ xs))
    go (inl e) r = subst (In p) (sym (first e)) (inr r)
      where
        first : test x ≡ true → filter test (x ∷ xs) ≡ x ∷ filter test xs
        first f = rw f refl
    go (inr e) r = subst (In p) (sym (passed e)) r
      where
        passed : test x ≡ false → filter test (x ∷ xs) ≡ filter test xs
        passed f = rw f refl

-- with each path its prefixes
abbrev pub Closed : List Rows → Type 0
Closed ps = (q : Rows) → In q ps → (k : ℕ) → In (take k q) ps

pub take_below : (q : Rows) (j i : ℕ) → j ≤ i → take j (take i q) ≡ take j q
take_below q j i h = take-take j i q h

take_past : (q : Rows) (j i : ℕ) → i ≤ j → take j (take i q) ≡ take i q
take_past q j i h = take_all j (take i q) (omega (arith, length-take i q))

-- paths from an anchor on: each of them a prefix of one whole, and those between are saved
pub closed_more : (ps more : List Rows) (whole : Rows) (a : ℕ) → Closed ps → In (take a whole) ps
    → ((p : Rows) → In p more → (i : ℕ) × (a < i) × (p ≡ take i whole) × ((j : ℕ) → a < j → j ≤ i → In (take j whole) (ps ++ more)))
    → Closed (ps ++ more)
closed_more ps more whole a c anchor from q h k = go (in_either q ps more h)
  where
    go : In q ps ⊎ In q more → In (take k q) (ps ++ more)
    go (inl i) = in_left (take k q) ps more (c q i k)
    go (inr i) =
        let f = from q i in
        subst (λ (p : Rows). In p (ps ++ more)) (sym (ap (take k) f.2)) (either f.0 (cases_lt k f.0) (cases_lt a k) (inl_or f.0 f.1) f.3)
      where
        inl_or : (n : ℕ) → a < n → a < n
        inl_or n l = l

        below : k ≤ a → In (take k whole) (ps ++ more)
        below b = in_left (take k whole) ps more (subst (λ (p : Rows). In p ps) (take_below whole k a b) (c (take a whole) anchor k))

        either : (n : ℕ) → (k < n) ⊎ (n ≤ k) → (a < k) ⊎ (k ≤ a) → a < n → ((j : ℕ) → a < j → j ≤ n → In (take j whole) (ps ++ more)) → In (take k (take n whole)) (ps ++ more)
        either n (inl l) (inl b) m r = subst (λ (p : Rows). In p (ps ++ more)) (sym (take_below whole k n (omega arith))) (r k b (omega arith))
        either n (inl l) (inr b) m r = subst (λ (p : Rows). In p (ps ++ more)) (sym (take_below whole k n (omega arith))) (below b)
        either n (inr l) b m r = subst (λ (p : Rows). In p (ps ++ more)) (sym (take_past whole k n l)) (r n m (omega arith))
