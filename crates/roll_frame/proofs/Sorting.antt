-- Lists in an order: one that is sorted is the only one of its items, and paths in order are all of the paths, sorted.
use Rattle.std.proofs.Common.{◌≡◌, ℕ, zero, suc, ◌+◌, ◌≤◌, List, [], ◌∷◌, get_or, length, map, ◌<◌, Bool, true, false, cond, refl, sym, ap, subst, ◌∙◌, arith}
use Rattle.std.specs.List.{sum_by}
use Rattle.std.specs.List.Sorted.{IsPermutation, IsSorted}
use Rattle.std.specs.Cmp.{IsTotalOrder}
use Rattle.std.specs.Ordering.{is_eq, is_lt, is_gt, ordering_reverse}
use Rattle.std.specs.declared.cmp.Ordering.{Ordering}
use Rattle.std.specs.declared.cmp.Ordering.TheVariants.{Less, Equal, Greater}
use Rattle.std.proofs.lemmas.Bool.{false≢true}
use Rattle.std.proofs.lemmas.Cmp.{upto, tied_itself}
use Rattle.std.proofs.lemmas.List.Sorted.{IsPermutation-refl, IsPermutation-cons, IsPermutation-middle, IsPermutation-sym, IsPermutation-trans, sum_by-IsPermutation}
use Rattle.std.proofs.lemmas.List.Sums.{sum_by-cons}
use Rattle.std.proofs.lemmas.List.{length-map}
use Rattle.roll_frame.specs.Cells.{Rows}
use Rattle.roll_frame.specs.Order.{rows_cmp, placed, in_order}
use Rattle.roll_frame.proofs.PathOrder.{rows_cmp_total, same_rows}

not_after : (r s : Ordering) → s ≡ ordering_reverse r → is_lt r ≡ false → is_gt s ≡ false
not_after Less s e h = absurd (false≢true (sym h))
not_after Equal s e h = ap is_gt e
not_after Greater s e h = ap is_gt e

not_before : (r s : Ordering) → s ≡ ordering_reverse r → is_gt r ≡ false → is_lt s ≡ false
not_before Less s e h = ap is_lt e
not_before Equal s e h = ap is_lt e
not_before Greater s e h = absurd (false≢true (sym h))

tied_between : (r s : Ordering) → s ≡ ordering_reverse r → is_gt r ≡ false → is_gt s ≡ false → is_eq r ≡ true
tied_between Less s e h k = absurd (false≢true (sym k ∙ ap is_gt e))
tied_between Equal s e h k = refl
tied_between Greater s e h k = absurd (false≢true (sym h))

less_not_after : (r : Ordering) → is_lt r ≡ true → is_gt r ≡ false
less_not_after Less h = refl
less_not_after Equal h = refl
less_not_after Greater h = absurd (false≢true h)

module _ {X : Type 0} (cmp : X → X → Ordering) where
  -- each of these is x or comes after it
  abbrev pub AtLeast : X → List X → Type 0
  AtLeast x [] = Unit {0}
  AtLeast x (y ∷ ys) = (is_gt (cmp x y) ≡ false) × AtLeast x ys

  abbrev pub Ascends : List X → Type 0
  Ascends [] = Unit {0}
  Ascends (x ∷ xs) = AtLeast x xs × Ascends xs

  -- 1 where the two tie
  abbrev tied : X → X → ℕ
  tied x y = cond (is_eq (cmp x y)) 1 0

module _ {X : Type 0} (cmp : X → X → Ordering) (total : IsTotalOrder cmp) where
  at_least_after : (x y : X) (zs : List X) → is_gt (cmp x y) ≡ false → AtLeast cmp y zs → AtLeast cmp x zs
  at_least_after x y [] before all = tt
  at_least_after x y (z ∷ zs) before all = (upto total x y z before all.0, at_least_after x y zs before all.1)

  sorted_ascends : (xs : List X) → IsSorted cmp xs → Ascends cmp xs
  sorted_ascends [] sorted = tt
  sorted_ascends (x ∷ []) sorted = (tt, tt)
  sorted_ascends (x ∷ y ∷ ys) sorted =
      let rest = sorted_ascends (y ∷ ys) (λ k d low high. let next : suc k + 1 ≡ suc (k + 1) = omega arith in subst (λ (n : ℕ). is_lt (cmp (get_or (x ∷ y ∷ ys) n d) (get_or (y ∷ ys) k d)) ≡ false) next (sorted (suc k) d (omega arith) (omega (arith, high)))) in
      let first : is_gt (cmp x y) ≡ false = not_after (cmp y x) (cmp x y) (total.antisymm x y) (sorted 0 x (omega arith) (omega arith)) in
      ((first, at_least_after x y ys first rest.0), rest)

  ascends_sorted : (xs : List X) → Ascends cmp xs → IsSorted cmp xs
  ascends_sorted [] a k d low high = absurd (omega arith)
  ascends_sorted (x ∷ []) a k d low high = absurd (omega arith)
  ascends_sorted (x ∷ y ∷ ys) a zero d low high = not_before (cmp x y) (cmp y x) (total.antisymm y x) a.0.0
  ascends_sorted (x ∷ y ∷ ys) a (suc k) d low high =
      let next : suc k + 1 ≡ suc (k + 1) = omega arith in
      subst (λ (n : ℕ). is_lt (cmp (get_or (x ∷ y ∷ ys) n d) (get_or (y ∷ ys) k d)) ≡ false) (sym next) (ascends_sorted (y ∷ ys) a.1 k d (omega arith) (omega arith))

  module _ (same : (x y : X) → is_eq (cmp x y) ≡ true → x ≡ y) where
    -- one of these, which ties with x, comes after what they all come after
    among : (x y : X) (ys : List X) → 1 ≤ sum_by (tied cmp x) ys → AtLeast cmp y ys → is_gt (cmp y x) ≡ false
    among x y [] some all = absurd (omega arith)
    among x y (z ∷ zs) some all = go (is_eq (cmp x z)) refl (among x y zs)
      where
        go : (b : Bool) → is_eq (cmp x z) ≡ b → (1 ≤ sum_by (tied cmp x) zs → AtLeast cmp y zs → is_gt (cmp y x) ≡ false) → is_gt (cmp y x) ≡ false
        go true e rest = ap (λ (w : X). is_gt (cmp y w)) (same x z e) ∙ all.0
        go false e rest =
            let none : tied cmp x z ≡ 0 = ap (λ (b : Bool). one_if b) e in
            rest (omega (arith, some, none, sum_by-cons (tied cmp x) z zs)) all.1
          where
            one_if : Bool → ℕ
            one_if b = cond b 1 0

    itself : (x : X) → tied cmp x x ≡ 1
    itself x = rw (tied_itself total x) refl

    heads : (x y : X) (xs ys : List X) → AtLeast cmp x xs → AtLeast cmp y ys → 1 ≤ sum_by (tied cmp x) (y ∷ ys) → 1 ≤ sum_by (tied cmp y) (x ∷ xs) → x ≡ y
    heads x y xs ys atx aty inx iny = go (is_eq (cmp x y)) refl (is_eq (cmp y x)) refl
      where
        go : (b : Bool) → is_eq (cmp x y) ≡ b → (c : Bool) → is_eq (cmp y x) ≡ c → x ≡ y
        go true e c f = same x y e
        go false e true f = sym (same y x f)
        go false e false f =
            let noy : tied cmp x y ≡ 0 = rw e refl in
            let nox : tied cmp y x ≡ 0 = rw f refl in
            let after : is_gt (cmp y x) ≡ false = among x y ys (omega (arith, inx, noy, sum_by-cons (tied cmp x) y ys)) aty in
            let before : is_gt (cmp x y) ≡ false = among y x xs (omega (arith, iny, nox, sum_by-cons (tied cmp y) x xs)) atx in
            same x y (tied_between (cmp x y) (cmp y x) (total.antisymm y x) before after)

    unique : (xs ys : List X) → Ascends cmp xs → Ascends cmp ys → ((z : X) → sum_by (tied cmp z) xs ≡ sum_by (tied cmp z) ys) → xs ≡ ys
    unique [] [] ax ay counts = refl
    unique [] (y ∷ ys) ax ay counts = absurd (omega (arith, counts y, itself y, sum_by-cons (tied cmp y) y ys))
    unique (x ∷ xs) [] ax ay counts = absurd (omega (arith, counts x, itself x, sum_by-cons (tied cmp x) x xs))
    unique (x ∷ xs) (y ∷ ys) ax ay counts =
        let e : x ≡ y = heads x y xs ys ax.0 ay.0 (omega (arith, counts x, itself x, sum_by-cons (tied cmp x) x xs)) (omega (arith, counts y, itself y, sum_by-cons (tied cmp y) y ys)) in
        let rest = unique xs ys ax.1 ay.1 (λ z. omega (arith, counts z, sum_by-cons (tied cmp z) x xs, sum_by-cons (tied cmp z) y ys, ap (tied cmp z) e)) in
        λ i. e i ∷ rest i

    -- two sorted lists of the same items are one list
    pub sorted_once : (xs ys : List X) → IsSorted cmp xs → IsSorted cmp ys → IsPermutation xs ys → xs ≡ ys
    sorted_once xs ys sx sy moved = unique xs ys (sorted_ascends xs sx) (sorted_ascends ys sy) (λ z. sym (sum_by-IsPermutation (tied cmp z) xs ys moved))

at_placed : (x p : Rows) (xs : List Rows) → is_gt (rows_cmp x p) ≡ false → AtLeast rows_cmp x xs → AtLeast rows_cmp x (placed p xs)
at_placed x p [] before all = (before, tt)
at_placed x p (y ∷ ys) before all = go (is_lt (rows_cmp p y)) (at_placed x p ys before all.1)
  where
    go : (b : Bool) → AtLeast rows_cmp x (placed p ys) → AtLeast rows_cmp x (cond b (p ∷ y ∷ ys) (y ∷ placed p ys))
    go true rest = (before, all)
    go false rest = (all.0, rest)

placed_ascends : (p : Rows) (xs : List Rows) → Ascends rows_cmp xs → Ascends rows_cmp (placed p xs)
placed_ascends p [] a = (tt, tt)
placed_ascends p (x ∷ xs) a = go (is_lt (rows_cmp p x)) refl (placed_ascends p xs a.1)
  where
    go : (b : Bool) → is_lt (rows_cmp p x) ≡ b → Ascends rows_cmp (placed p xs) → Ascends rows_cmp (cond b (p ∷ x ∷ xs) (x ∷ placed p xs))
    go true e rest =
        let before = less_not_after (rows_cmp p x) e in
        ((before, at_least_after rows_cmp rows_cmp_total p x xs before a.0), a)
    go false e rest = (at_placed x p xs (not_after (rows_cmp p x) (rows_cmp x p) (rows_cmp_total.antisymm x p) e) a.0, rest)

pub order_ascends : (ps : List Rows) → Ascends rows_cmp (in_order ps)
order_ascends [] = tt
order_ascends (p ∷ ps) = placed_ascends p (in_order ps) (order_ascends ps)

-- paths in order are sorted
pub order_sorted : (ps : List Rows) → IsSorted rows_cmp (in_order ps)
order_sorted ps = ascends_sorted rows_cmp rows_cmp_total (in_order ps) (order_ascends ps)

placed_permutes : (p : Rows) (ps : List Rows) → IsPermutation (p ∷ ps) (placed p ps)
placed_permutes p [] = IsPermutation-refl (p ∷ [])
placed_permutes p (x ∷ xs) = go (is_lt (rows_cmp p x)) (placed_permutes p xs)
  where
    go : (b : Bool) → IsPermutation (p ∷ xs) (placed p xs) → IsPermutation (p ∷ x ∷ xs) (cond b (p ∷ x ∷ xs) (x ∷ placed p xs))
    go true r = IsPermutation-refl (p ∷ x ∷ xs)
    go false r = IsPermutation-trans (p ∷ x ∷ xs) (x ∷ p ∷ xs) (x ∷ placed p xs) (IsPermutation-middle (p ∷ []) x xs) (IsPermutation-cons x (p ∷ xs) (placed p xs) r)

-- and they are all of the paths
pub order_permutes : (ps : List Rows) → IsPermutation ps (in_order ps)
order_permutes [] = IsPermutation-refl []
order_permutes (p ∷ ps) = IsPermutation-trans (p ∷ ps) (p ∷ in_order ps) (placed p (in_order ps)) (IsPermutation-cons p ps (in_order ps) (order_permutes ps)) (placed_permutes p (in_order ps))

-- so paths in order are in order
pub order_again : (ps : List Rows) → in_order (in_order ps) ≡ in_order ps
order_again ps =
    sorted_once rows_cmp rows_cmp_total same_rows (in_order (in_order ps)) (in_order ps) (order_sorted (in_order ps)) (order_sorted ps)
    (IsPermutation-sym (in_order ps) (in_order (in_order ps)) (order_permutes (in_order ps)))

module _ {X Y : Type 0} (f : X → Y) where
  get-map : (xs : List X) (k : ℕ) (d : Y) (x : X) → k < length xs → get_or (map f xs) k d ≡ f (get_or xs k x)
  get-map [] k d x within = absurd (omega arith)
  get-map (y ∷ ys) zero d x within = refl
  get-map (y ∷ ys) (suc k) d x within = get-map ys k d x (omega arith)

  -- what a sorted list is mapped to is sorted, where less there was less here
  pub sorted-map : (cmp : X → X → Ordering) (other : Y → Y → Ordering) → ((x y : X) → is_lt (other (f x) (f y)) ≡ true → is_lt (cmp x y) ≡ true) → (xs : List X) → IsSorted cmp xs → IsSorted other (map f xs)
  sorted-map cmp other below [] sorted k d low high = absurd (omega arith)
  sorted-map cmp other below (x ∷ xs) sorted k d low high = go (is_lt (other (get_or (map f (x ∷ xs)) (k + 1) d) (get_or (map f (x ∷ xs)) k d))) refl
    where
      within : k + 1 < length (x ∷ xs)
      within = omega (arith, high, length-map (x ∷ xs) f)

      here : get_or (map f (x ∷ xs)) k d ≡ f (get_or (x ∷ xs) k x)
      here = get-map (x ∷ xs) k d x (omega (arith, within))

      next : get_or (map f (x ∷ xs)) (k + 1) d ≡ f (get_or (x ∷ xs) (k + 1) x)
      next = get-map (x ∷ xs) (k + 1) d x within

      go : (b : Bool) → is_lt (other (get_or (map f (x ∷ xs)) (k + 1) d) (get_or (map f (x ∷ xs)) k d)) ≡ b → b ≡ false
      go false e = refl
      go true e =
          let less : is_lt (other (f (get_or (x ∷ xs) (k + 1) x)) (f (get_or (x ∷ xs) k x))) ≡ true =
          subst (λ (y : Y). is_lt (other y (f (get_or (x ∷ xs) k x))) ≡ true) next (subst (λ (y : Y). is_lt (other (get_or (map f (x ∷ xs)) (k + 1) d) y) ≡ true) here e) in
          absurd (false≢true (sym (sorted k x low within) ∙ below (get_or (x ∷ xs) (k + 1) x) (get_or (x ∷ xs) k x) less))
