-- The states of a tree that pass a test, in the order of their paths.
use Rattle.std.proofs.Common.{◌≡◌, ℕ, zero, suc, ◌+◌, ◌<◌, List, [], ◌∷◌, ◌++◌, length, map, take, drop, take-append-drop, append_assoc, get_or, length-append, refl, sym, ap, subst, ◌∙◌, arith, Bool, true, false, cond, Option, Some, None}
use Rattle.std.specs.Prelude.{All, IsSome, IsSomeAnd}
use Rattle.std.specs.Cmp.{tied_itself}
use Rattle.std.specs.Cmp.Lexicographic.{slice_cmp}
use Rattle.std.specs.List.{AllByRecursion, count_by, filter}
use Rattle.std.specs.List.Sorted.{IsPermutation, IsSorted}
use Rattle.std.specs.Option.{option_map_or}
use Rattle.std.specs.Ordering.{is_eq, is_lt, nat_cmp, ordering_then}
use Rattle.std.specs.declared.cmp.Ordering.{Ordering}
use Rattle.std.specs.declared.cmp.Ordering.TheVariants.{Less, Equal, Greater}
use Rattle.std.proofs.lemmas.Cmp.{lists_total, nat_cmp_total}
use Rattle.std.proofs.lemmas.List.Elements.{All-filter, All-from_recursion, recursion_from_All}
use Rattle.std.proofs.lemmas.List.Kept.{IsSortedBy-filter}
use Rattle.std.proofs.lemmas.List.{length-map}
use Rattle.std.proofs.lemmas.List.Sorted.{All-permutation, IsPermutation-cons, IsPermutation-map, IsPermutation-middle, IsPermutation-refl, IsPermutation-sym, IsPermutation-trans, ranks_by, sum_by-IsPermutation}
use Rattle.std.proofs.lemmas.List.Sums.{sum_by-cons}
use Rattle.roll_frame.specs.declared.row.Cell.{Cell}
use Rattle.roll_frame.specs.Cells.{Rows}
use Rattle.roll_frame.specs.Order.{in_order, placed, row_cmp, rows_cmp}
use Rattle.roll_frame.specs.Impls.Total.{row_cmp_total}
use Rattle.roll_frame.proofs.PathOrder.{rows_cmp_total, same_rows}
use Rattle.roll_frame.proofs.Sorting.{order_permutes, order_sorted, sorted-map, sorted_once}
use Rattle.roll_tree.specs.SavedStates.{SavedStates, Saved, state_named, paths_of, IsAbove, IsDistinct}
use Rattle.roll_tree.specs.declared.tree.Above.{Above}
use Rattle.roll_plan.specs.Ranks.{path_named, IsKept}

swapped : (f : Rows → Bool) (p x : Rows) (xs : List Rows) → IsPermutation (filter f (p ∷ x ∷ xs)) (filter f (x ∷ p ∷ xs))
swapped f p x xs = go (f p) (f x)
  where
    go : (b c : Bool) → IsPermutation (cond b (p ∷ cond c (x ∷ filter f xs) (filter f xs)) (cond c (x ∷ filter f xs) (filter f xs))) (cond c (x ∷ cond b (p ∷ filter f xs) (filter f xs)) (cond b (p ∷ filter f xs) (filter f xs)))
    go true true = IsPermutation-middle (p ∷ []) x (filter f xs)
    go true false = IsPermutation-refl (p ∷ filter f xs)
    go false true = IsPermutation-refl (x ∷ filter f xs)
    go false false = IsPermutation-refl (filter f xs)

behind : (f : Rows → Bool) (p : Rows) (xs ys : List Rows) → IsPermutation (filter f xs) (filter f ys) → IsPermutation (filter f (p ∷ xs)) (filter f (p ∷ ys))
behind f p xs ys moved = go (f p)
  where
    go : (b : Bool) → IsPermutation (cond b (p ∷ filter f xs) (filter f xs)) (cond b (p ∷ filter f ys) (filter f ys))
    go true = IsPermutation-cons p (filter f xs) (filter f ys) moved
    go false = moved

placed_filtered : (f : Rows → Bool) (p : Rows) (xs : List Rows) → IsPermutation (filter f (p ∷ xs)) (filter f (placed p xs))
placed_filtered f p [] = IsPermutation-refl (filter f (p ∷ []))
placed_filtered f p (x ∷ xs) = go (is_lt (rows_cmp p x)) (placed_filtered f p xs)
  where
    go : (b : Bool) → IsPermutation (filter f (p ∷ xs)) (filter f (placed p xs)) → IsPermutation (filter f (p ∷ x ∷ xs)) (filter f (cond b (p ∷ x ∷ xs) (x ∷ placed p xs)))
    go true rest = IsPermutation-refl (filter f (p ∷ x ∷ xs))
    go false rest = IsPermutation-trans (filter f (p ∷ x ∷ xs)) (filter f (x ∷ p ∷ xs)) (filter f (x ∷ placed p xs)) (swapped f p x xs) (behind f x (p ∷ xs) (placed p xs) rest)

-- the paths that pass a test are the same in order
order_filtered : (f : Rows → Bool) (ps : List Rows) → IsPermutation (filter f ps) (filter f (in_order ps))
order_filtered f [] = IsPermutation-refl []
order_filtered f (p ∷ ps) = IsPermutation-trans (filter f (p ∷ ps)) (filter f (p ∷ in_order ps)) (filter f (placed p (in_order ps))) (behind f p ps (in_order ps) (order_filtered f ps)) (placed_filtered f p (in_order ps))

module _ {S : Type 0} where
  -- the state at a place of the tree, and its name
  pub record IsAt (t : SavedStates S) (names : List ℕ) (k : ℕ) : Type 0 where
    pub state : Saved S
    pub name_is : get_or names k 0 ≡ state.name
    pub held_is : state_named t (get_or names k 0) ≡ Some state
    pub more : take (k + 1) t.states ≡ take k t.states ++ state ∷ []
    pub split : t.states ≡ take k t.states ++ state ∷ drop (k + 1) t.states

  at_name : (t : SavedStates S) (states : List (Saved S)) → AllByRecursion (λ (s : Saved S). state_named t s.name ≡ Some s) states → (k : ℕ) → k < length states
      → (s : Saved S) × (get_or (map (λ (x : Saved S). x.name) states) k 0 ≡ s.name) × (state_named t s.name ≡ Some s) × (take (k + 1) states ≡ take k states ++ s ∷ [])
  at_name t [] named k within = absurd (omega arith)
  at_name t (s ∷ states) named zero within = (s, refl, named.0, first states)
    where
      first : (rest : List (Saved S)) → take 1 (s ∷ rest) ≡ s ∷ []
      first [] = refl
      first (r ∷ rest) = refl
  at_name t (s ∷ states) named (suc k) within =
      let r = at_name t states named.1 k (omega arith) in
      let next : suc k + 1 ≡ suc (k + 1) = omega arith in
      (r.0, r.1, r.2, ap (λ n. take n (s ∷ states)) next ∙ ap (λ (l : List (Saved S)). s ∷ l) r.3)

  pub state_at : (t : SavedStates S) → All (λ (s : Saved S). state_named t s.name ≡ Some s) t.states → (names : List ℕ) → names ≡ map (λ (s : Saved S). s.name) t.states → (k : ℕ) → k < length names → IsAt t names k
  state_at t named names are k within =
      let low : k < length t.states = omega (arith, within, ap (λ (l : List ℕ). length l) are, length-map t.states (λ (s : Saved S). s.name)) in
      let r = at_name t t.states (recursion_from_All (λ (s : Saved S). state_named t s.name ≡ Some s) t.states named) k low in
      let name = ap (λ (l : List ℕ). get_or l k 0) are ∙ r.1 in
      record {
        state = r.0;
        name_is = name;
        held_is = ap (state_named t) name ∙ r.2;
        more = r.3;
        split = sym (take-append-drop (k + 1) t.states) ∙ ap (λ (l : List (Saved S)). l ++ drop (k + 1) t.states) r.3 ∙ append_assoc (take k t.states) (r.0 ∷ []) (drop (k + 1) t.states);
      }

  -- a name of the tree is held
  pub is_held : (t : SavedStates S) (names : List ℕ) (k : ℕ) → IsAt t names k → IsSome (state_named t (get_or names k 0))
  is_held t names k at = rw at.held_is refl

  paths_named : (t : SavedStates S) (states : List (Saved S)) → AllByRecursion (λ (s : Saved S). state_named t s.name ≡ Some s) states → map (path_named t) (map (λ (s : Saved S). s.name) states) ≡ map (λ (s : Saved S). s.path) states
  paths_named t [] named = refl
  paths_named t (s ∷ states) named = (λ i. option_map_or (λ (u : Saved S). u.path) (named.0 i) [] ∷ paths_named t states named.1 i)

  paths_kept : (f : Rows → Bool) (states : List (Saved S)) → map (λ (s : Saved S). s.path) (filter (λ (s : Saved S). f s.path) states) ≡ filter f (map (λ (s : Saved S). s.path) states)
  paths_kept f [] = refl
  paths_kept f (s ∷ states) = go (f s.path) (paths_kept f states)
    where
      go : (b : Bool) → map (λ (u : Saved S). u.path) (filter (λ (u : Saved S). f u.path) states) ≡ filter f (map (λ (u : Saved S). u.path) states)
          → map (λ (u : Saved S). u.path) (cond b (s ∷ filter (λ (u : Saved S). f u.path) states) (filter (λ (u : Saved S). f u.path) states)) ≡ cond b (s.path ∷ filter f (map (λ (u : Saved S). u.path) states)) (filter f (map (λ (u : Saved S). u.path) states))
      go true rest = ap (λ (l : List Rows). s.path ∷ l) rest
      go false rest = rest

  named_kept : (t : SavedStates S) (f : Rows → Bool) → All (λ (s : Saved S). state_named t s.name ≡ Some s) t.states → AllByRecursion (λ (s : Saved S). state_named t s.name ≡ Some s) (filter (λ (s : Saved S). f s.path) t.states)
  named_kept t f named =
      let states = filter (λ (s : Saved S). f s.path) t.states in
      recursion_from_All (λ (s : Saved S). state_named t s.name ≡ Some s) states (All-filter (λ (s : Saved S). f s.path) (λ (s : Saved S). state_named t s.name ≡ Some s) t.states named)

  -- the names of the states whose paths pass a test, sorted by these, give the kept paths in order that pass it
  pub ranked_is : (t : SavedStates S) (f : Rows → Bool) (names : List ℕ) → All (λ (s : Saved S). state_named t s.name ≡ Some s) t.states → IsPermutation (map (λ (s : Saved S). s.name) (filter (λ (s : Saved S). f s.path) t.states)) names → IsSorted (λ a b. rows_cmp (path_named t a) (path_named t b)) names
      → map (path_named t) names ≡ filter f (in_order (paths_of t))
  ranked_is t f names named moved sorted =
      let states = filter (λ (s : Saved S). f s.path) t.states in
      let paths = paths_named t states (named_kept t f named) ∙ paths_kept f t.states in
      let moved_paths : IsPermutation (filter f (paths_of t)) (map (path_named t) names) = subst (λ (l : List Rows). IsPermutation l (map (path_named t) names)) paths (IsPermutation-map (path_named t) (map (λ (s : Saved S). s.name) states) names moved) in
      sorted_once rows_cmp rows_cmp_total same_rows (map (path_named t) names) (filter f (in_order (paths_of t)))
      (sorted-map (path_named t) (λ a b. rows_cmp (path_named t a) (path_named t b)) rows_cmp (λ a b e. e) names sorted)
      (IsSortedBy-filter (λ p q. is_lt (rows_cmp p q)) (ranks_by rows_cmp_total (λ p. p)) f (in_order (paths_of t)) (order_sorted (paths_of t)))
      (IsPermutation-trans (map (path_named t) names) (filter f (paths_of t)) (filter f (in_order (paths_of t))) (IsPermutation-sym (filter f (paths_of t)) (map (path_named t) names) moved_paths) (order_filtered f (paths_of t)))

  each_kept : (t : SavedStates S) (states : List (Saved S)) → AllByRecursion (λ (s : Saved S). state_named t s.name ≡ Some s) states → AllByRecursion (IsKept t) (map (λ (s : Saved S). s.name) states)
  each_kept t [] named = tt
  each_kept t (s ∷ states) named = (rw named.0 refl, each_kept t states named.1)

  -- in whatever order, each is kept
  pub are_kept : (t : SavedStates S) (f : Rows → Bool) (names : List ℕ) → All (λ (s : Saved S). state_named t s.name ≡ Some s) t.states → IsPermutation (map (λ (s : Saved S). s.name) (filter (λ (s : Saved S). f s.path) t.states)) names → All (IsKept t) names
  are_kept t f names named moved =
      let states = filter (λ (s : Saved S). f s.path) t.states in
      All-permutation (IsKept t) (map (λ (s : Saved S). s.name) states) names moved
      (All-from_recursion (IsKept t) (map (λ (s : Saved S). s.name) states) (each_kept t states (named_kept t f named)))

  counted_paths : (f : Rows → Bool) (states : List (Saved S)) → count_by f (map (λ (s : Saved S). s.path) states) ≡ count_by (λ (s : Saved S). f s.path) states
  counted_paths f [] = refl
  counted_paths f (s ∷ states) =
      sum_by-cons (λ p. cond (f p) 1 0) s.path (map (λ (u : Saved S). u.path) states)
      ∙ ap (λ n. cond (f s.path) 1 0 + n) (counted_paths f states)
      ∙ sym (sum_by-cons (λ (u : Saved S). cond (f u.path) 1 0) s states)

  -- as many paths in order pass a test as states have such a path
  pub counted_order : (t : SavedStates S) (f : Rows → Bool) → count_by (λ (s : Saved S). f s.path) t.states ≡ count_by f (in_order (paths_of t))
  counted_order t f =
      sym (counted_paths f t.states)
      ∙ sym (sum_by-IsPermutation (λ p. cond (f p) 1 0) (paths_of t) (in_order (paths_of t)) (order_permutes (paths_of t)))

  -- the path of a state is that of the one above it, and a row
  pub path_above : (t : SavedStates S) (path : Rows) (above : Above) → IsAbove t path (Some above) → path ≡ path_named t above.node ++ above.row ∷ []
  path_above t path above h = go (state_named t above.node) h
    where
      go : (o : Option (Saved S)) → IsSomeAnd o (λ s. path ≡ s.path ++ above.row ∷ []) → path ≡ option_map_or (λ (s : Saved S). s.path) o [] ++ above.row ∷ []
      go None h = absurd h
      go (Some s) h = h

  -- two states that are above others have the same path only if they are one
  pub above_apart : (t : SavedStates S) (path path' : Rows) (one other : Above) → IsDistinct t → IsAbove t path (Some one) → IsAbove t path' (Some other) → path_named t one.node ≡ path_named t other.node → one.node ≡ other.node
  above_apart t path path' one other distinct h k same = go (state_named t one.node) refl h (state_named t other.node) refl k
    where
      go : (o : Option (Saved S)) → state_named t one.node ≡ o → IsSomeAnd o (λ s. path ≡ s.path ++ one.row ∷ []) → (p : Option (Saved S)) → state_named t other.node ≡ p → IsSomeAnd p (λ s. path' ≡ s.path ++ other.row ∷ []) → one.node ≡ other.node
      go None e h p f k = absurd h
      go (Some s) e h None f k = absurd k
      go (Some s) e h (Some u) f k = distinct one.node other.node s u e f (ap (λ o. option_map_or (λ (v : Saved S). v.path) o []) (sym e) ∙ same ∙ ap (λ o. option_map_or (λ (v : Saved S). v.path) o []) f)

then_Equal : (o : Ordering) → ordering_then o Equal ≡ o
then_Equal Less = refl
then_Equal Equal = refl
then_Equal Greater = refl

then_assoc : (a b c : Ordering) → ordering_then (ordering_then a b) c ≡ ordering_then a (ordering_then b c)
then_assoc Less b c = refl
then_assoc Equal b c = refl
then_assoc Greater b c = refl

-- of rows of the same length, the last decide where those before don't
cmp_push : (xs ys : Rows) (x y : List Cell) → length xs ≡ length ys → slice_cmp row_cmp (xs ++ x ∷ []) (ys ++ y ∷ []) ≡ ordering_then (slice_cmp row_cmp xs ys) (row_cmp x y)
cmp_push [] [] x y same = then_Equal (row_cmp x y)
cmp_push [] (b ∷ ys) x y same = absurd (omega (arith, same))
cmp_push (a ∷ xs) [] x y same = absurd (omega (arith, same))
cmp_push (a ∷ xs) (b ∷ ys) x y same = ap (ordering_then (row_cmp a b)) (cmp_push xs ys x y (omega (arith, same))) ∙ sym (then_assoc (row_cmp a b) (slice_cmp row_cmp xs ys) (row_cmp x y))

no_rows : (rows : Rows) → length rows ≡ 0 → rows ≡ []
no_rows [] e = refl
no_rows (row ∷ rows) e = absurd (omega (arith, e))

not_tied : (xs ys : Rows) → length xs ≡ length ys → (xs ≡ ys → ⊥) → (o : Ordering) → slice_cmp row_cmp xs ys ≡ o → (behind : Ordering) → ordering_then o behind ≡ o
not_tied xs ys same apart Less e behind = refl
not_tied xs ys same apart Equal e behind =
    let long : nat_cmp (length xs) (length ys) ≡ Equal = rw same (tied_itself nat_cmp_total (length ys)) in
    absurd (apart (same_rows xs ys (λ i. is_eq (ordering_then (long i) (e i)))))
not_tied xs ys same apart Greater e behind = refl

-- two paths of the same length, and two on the way up from them, which are ordered in the same way
pub record AreLevel (first second left right : Rows) : Type 0 where
  pub same : length left ≡ length right
  pub order : slice_cmp row_cmp first second ≡ slice_cmp row_cmp left right

-- a row further up, where the paths there aren't the same
pub level_more : (first second left right left' right' : Rows) (x y : List Cell) → AreLevel first second left right → left ≡ left' ++ x ∷ [] → right ≡ right' ++ y ∷ [] → (left' ≡ right' → ⊥) → AreLevel first second left' right'
level_more first second left right left' right' x y l is other_is apart =
    let long = ap length is ∙ length-append left' (x ∷ []) in
    let other_long = ap length other_is ∙ length-append right' (y ∷ []) in
    let same : length left' ≡ length right' = omega (arith, l.same, long, other_long) in
    record {
      same = same;
      order = l.order ∙ (λ i. slice_cmp row_cmp (is i) (other_is i)) ∙ cmp_push left' right' x y same ∙ not_tied left' right' same apart (slice_cmp row_cmp left' right') refl (row_cmp x y);
    }

-- one row behind the same path
pub level_last : (first second left right up : Rows) (x y : List Cell) → AreLevel first second left right → left ≡ up ++ x ∷ [] → right ≡ up ++ y ∷ [] → slice_cmp row_cmp first second ≡ row_cmp x y
level_last first second left right up x y l is other_is =
    l.order ∙ (λ i. slice_cmp row_cmp (is i) (other_is i)) ∙ cmp_push up up x y refl ∙ ap (λ (o : Ordering). ordering_then o (row_cmp x y)) (tied_itself (lists_total row_cmp_total) up)

-- the same path
pub level_met : (first second left right : Rows) → AreLevel first second left right → left ≡ right → slice_cmp row_cmp first second ≡ Equal
level_met first second left right l met =
    l.order ∙ ap (λ (rows : Rows). slice_cmp row_cmp rows right) met ∙ tied_itself (lists_total row_cmp_total) right

-- where one has come to the root, so has the other
pub level_first : (first second left right : Rows) → AreLevel first second left right → left ≡ [] → slice_cmp row_cmp first second ≡ Equal
level_first first second left right l none =
    level_met first second left right l (none ∙ sym (no_rows right (sym l.same ∙ ap length none)))

pub level_second : (first second left right : Rows) → AreLevel first second left right → right ≡ [] → slice_cmp row_cmp first second ≡ Equal
level_second first second left right l none =
    level_met first second left right l (no_rows left (l.same ∙ ap length none) ∙ sym none)
