-- In the order of paths, those that a plan passes over come one after another, and so do their entries.
use Rattle.std.proofs.Common.{◌≡◌, ℕ, suc, ◌+◌, ◌<◌, ◌≤◌, List, [], ◌∷◌, ◌++◌, length, map, take, Bool, true, false, cond, refl, sym, ap, ◌∙◌, arith, None}
use Rattle.std.specs.Prelude.{nat_lt, nat_le, ◌&&◌}
use Rattle.std.specs.List.{AllByRecursion, cons_option, count_by, filter}
use Rattle.std.specs.Ordering.{is_gt, nat_cmp, ordering_then}
use Rattle.std.specs.declared.cmp.Ordering.{Ordering}
use Rattle.std.specs.declared.cmp.Ordering.TheVariants.{Less, Equal, Greater}
use Rattle.std.proofs.lemmas.Bool.Decides.{nat_tests}
use Rattle.std.proofs.lemmas.List.{map-append}
use Rattle.std.proofs.lemmas.List.Elements.{filter-append}
use Rattle.std.proofs.lemmas.List.Sums.{sum_by-append, sum_by-cons}
use Rattle.std.proofs.lemmas.Map.Keys.{le_from_not_gt}
use Rattle.roll_frame.specs.Cells.{Rows}
use Rattle.roll_frame.specs.declared.claim.Differ.{Differ}
use Rattle.roll_frame.specs.Order.{in_order, rows_cmp}
use Rattle.roll_frame.proofs.Sorting.{AtLeast, Ascends, order_ascends}
use Rattle.roll_tree.specs.SavedStates.{SavedStates, Saved, path_of, paths_of}
use Rattle.roll_plan.specs.Ranks.{entries_by, entry_by_marks, is_before, is_passed, marked_for, path_named}

abbrev one_if : Bool → ℕ
one_if b = cond b 1 0

and_false : (b : Bool) → (b && false) ≡ false
and_false true = refl
and_false false = refl

first_not_gt : (a b : Ordering) → is_gt (ordering_then a b) ≡ false → is_gt a ≡ false
first_not_gt Less b e = refl
first_not_gt Equal b e = refl
first_not_gt Greater b e = e

-- of two paths in order, the second is as long at least
as_long : (p q : Rows) → is_gt (rows_cmp p q) ≡ false → length p ≤ length q
as_long p q e = le_from_not_gt (length p) (length q) (first_not_gt (nat_cmp (length p) (length q)) _ e)

pub at_most : (m n : ℕ) → m ≤ n → nat_le m n ≡ true
at_most m n h = grind (arith, nat_tests)

pub not_at_most : (m n : ℕ) → n < m → nat_le m n ≡ false
not_at_most m n h = grind (arith, nat_tests)

pub not_behind : (from to end : ℕ) → end ≤ from → (nat_lt from end && nat_le end to) ≡ false
not_behind from to end h = grind (arith, nat_tests)

pub between : (from to end : ℕ) → from < end → end ≤ to → (nat_lt from end && nat_le end to) ≡ true
between from to end h k = grind (arith, nat_tests)

pub not_within : (from to end : ℕ) → to < end → (nat_lt from end && nat_le end to) ≡ false
not_within from to end h = ap (λ b. nat_lt from end && b) (not_at_most end to h) ∙ and_false (nat_lt from end)

passed_is_behind : (from to end : ℕ) → (nat_lt from end && nat_le end to) ≡ true → from < end
passed_is_behind from to end h = grind (arith, nat_tests)

not_both : (from to end : ℕ) → nat_le end from ≡ true → (nat_lt from end && nat_le end to) ≡ true → ⊥
not_both from to end h k = grind (arith, nat_tests)

neither_is_beyond : (from to end : ℕ) → nat_le end from ≡ false → (nat_lt from end && nat_le end to) ≡ false → to < end
neither_is_beyond from to end h k = grind (arith, nat_tests)

module _ {S : Type 0} (t : SavedStates S) (from to : ℕ) where
  abbrev before : Rows → Bool
  before p = is_before from (path_of t.base p)

  abbrev passed : Rows → Bool
  passed p = is_passed from to (path_of t.base p)

  abbrev entries : ℕ → List Rows → List Differ
  entries place paths = entries_by (marked_for t from to) place (map (path_of t.base) paths)

  abbrev marked : ℕ → List Rows → List Differ
  marked place paths = entries_by (entry_by_marks t) place (map (path_of t.base) paths)

  abbrev names_to : ℕ → List ℕ
  names_to k = map (λ (s : Saved S). s.name) (filter (λ (s : Saved S). passed s.path) (take k t.states))

  abbrev before_to : ℕ → ℕ
  before_to k = count_by (λ (s : Saved S). before s.path) (take k t.states)

  -- of one state more, the name is taken down if it is passed over
  pub names_more : (k : ℕ) (s : Saved S) (b : Bool) → take (k + 1) t.states ≡ take k t.states ++ s ∷ [] → passed s.path ≡ b → names_to (k + 1) ≡ names_to k ++ cond b (s.name ∷ []) []
  names_more k s b more is =
      ap (λ l. map (λ (u : Saved S). u.name) (filter (λ (u : Saved S). passed u.path) l)) more
      ∙ ap (map (λ (u : Saved S). u.name)) (filter-append (λ (u : Saved S). passed u.path) (take k t.states) (s ∷ []))
      ∙ map-append (λ (u : Saved S). u.name) (filter (λ (u : Saved S). passed u.path) (take k t.states)) (filter (λ (u : Saved S). passed u.path) (s ∷ []))
      ∙ ap (λ c. names_to k ++ map (λ (u : Saved S). u.name) (cond c (s ∷ []) [])) is
      ∙ ap (λ l. names_to k ++ l) (named b)
    where
      named : (c : Bool) → map (λ (u : Saved S). u.name) (cond c (s ∷ []) []) ≡ cond c (s.name ∷ []) []
      named true = refl
      named false = refl

  -- and it is counted if it ends before
  pub before_more : (k : ℕ) (s : Saved S) (b : Bool) → take (k + 1) t.states ≡ take k t.states ++ s ∷ [] → before s.path ≡ b → before_to (k + 1) ≡ before_to k + one_if b
  before_more k s b more is =
      let one = sum_by-cons (λ (u : Saved S). one_if (before u.path)) s [] in
      let last : count_by (λ (u : Saved S). before u.path) (s ∷ []) ≡ one_if (before s.path) = omega (arith, one) in
      ap (count_by (λ (u : Saved S). before u.path)) more
      ∙ sum_by-append (λ (u : Saved S). one_if (before u.path)) (take k t.states) (s ∷ [])
      ∙ ap (λ n. before_to k + n) (last ∙ ap one_if is)

  -- behind a path that ends after the start, none ends before
  none_before : (p : Rows) (ps : List Rows) → from < t.base + length p → AtLeast rows_cmp p ps → count_by before ps ≡ 0
  none_before p [] far least = refl
  none_before p (q ∷ ps) far least =
      let long = as_long p q least.0 in
      let no : one_if (before q) ≡ 0 = ap one_if (not_at_most (t.base + length q) from (omega (arith, far, long))) in
      omega (arith, sum_by-cons (λ r. one_if (before r)) q ps, no, none_before p ps far least.1)

  -- behind a path that ends after the end, none is passed over
  none_passed : (p : Rows) (ps : List Rows) → to < t.base + length p → AtLeast rows_cmp p ps → filter passed ps ≡ []
  none_passed p [] far least = refl
  none_passed p (q ∷ ps) far least =
      let long = as_long p q least.0 in
      ap (λ b. cond b (q ∷ filter passed ps) (filter passed ps)) (not_within from to (t.base + length q) (omega (arith, far, long))) ∙ none_passed p ps far least.1

  -- of paths in order, the entries are those of the paths that are passed over, behind the shorter ones
  entries_between : (place : ℕ) (paths : List Rows) → Ascends rows_cmp paths → entries place paths ≡ marked (place + count_by before paths) (filter passed paths)
  entries_between place [] ascends = refl
  entries_between place (p ∷ ps) ascends = go (before p) (passed p) refl refl (entries_between (suc place) ps ascends.1)
    where
      counted : (b : Bool) → before p ≡ b → count_by before (p ∷ ps) ≡ one_if b + count_by before ps
      counted b e = sum_by-cons (λ r. one_if (before r)) p ps ∙ ap (λ c. one_if c + count_by before ps) e

      go : (b c : Bool) → before p ≡ b → passed p ≡ c → entries (suc place) ps ≡ marked (suc place + count_by before ps) (filter passed ps)
          → cons_option (cond c (entry_by_marks t place (path_of t.base p)) None) (entries (suc place) ps) ≡ marked (place + count_by before (p ∷ ps)) (cond c (p ∷ filter passed ps) (filter passed ps))
      go true false e f rest =
          let next : suc place + count_by before ps ≡ place + count_by before (p ∷ ps) = omega (arith, counted true e) in
          rest ∙ ap (λ n. marked n (filter passed ps)) next
      go false true e f rest =
          let none = none_before p ps (passed_is_behind from to (t.base + length p) f) ascends.0 in
          let here : place ≡ place + count_by before (p ∷ ps) = omega (arith, counted false e, none) in
          let next : suc place + count_by before ps ≡ suc place = omega (arith, none) in
          ap (cons_option (entry_by_marks t place (path_of t.base p))) (rest ∙ ap (λ n. marked n (filter passed ps)) next)
          ∙ ap (λ n. marked n (p ∷ filter passed ps)) here
      go true true e f rest = absurd (not_both from to (t.base + length p) e f)
      go false false e f rest =
          let none = none_passed p ps (neither_is_beyond from to (t.base + length p) e f) ascends.0 in
          rest ∙ ap (marked (suc place + count_by before ps)) none ∙ sym (ap (marked (place + count_by before (p ∷ ps))) none)

  -- none is passed over where none ends after the start
  pub no_entries : (place : ℕ) (paths : List Rows) → AllByRecursion (λ (p : Rows). t.base + length p ≤ from) paths → [] ≡ entries place paths
  no_entries place [] low = refl
  no_entries place (p ∷ ps) low =
      no_entries (suc place) ps low.1
      ∙ ap (λ b. cons_option (cond b (entry_by_marks t place (path_of t.base p)) None) (entries (suc place) ps)) (sym (not_behind from to (t.base + length p) low.0))

  -- the entries of the kept paths are those of the ones that are passed over, which these names have
  pub entries_passed : (names : List ℕ) (first : ℕ) → map (path_named t) names ≡ filter passed (in_order (paths_of t)) → first ≡ count_by before (in_order (paths_of t))
      → entries_by (λ state name. entry_by_marks t state (path_of t.base (path_named t name))) first names ≡ entries_by (marked_for t from to) 0 (map (path_of t.base) (in_order (paths_of t)))
  entries_passed names first paths is =
      of_names first names
      ∙ (λ i. marked (place i) (paths i))
      ∙ sym (entries_between 0 (in_order (paths_of t)) (order_ascends (paths_of t)))
    where
      place : first ≡ 0 + count_by before (in_order (paths_of t))
      place = omega (arith, is)

      of_names : (place : ℕ) (names : List ℕ) → entries_by (λ state name. entry_by_marks t state (path_of t.base (path_named t name))) place names ≡ marked place (map (path_named t) names)
      of_names place [] = refl
      of_names place (name ∷ names) = ap (cons_option (entry_by_marks t place (path_of t.base (path_named t name)))) (of_names (suc place) names)
