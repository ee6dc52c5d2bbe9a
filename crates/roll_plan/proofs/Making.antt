-- A plan that is made of a tree.
use Rattle.std.proofs.Common.{◌≡◌, ℕ, suc, ◌+◌, ◌-◌, ◌≤◌, List, [], ◌∷◌, ◌++◌, length, length-take, map, max, Bool, true, false, cond, refl, sym, ap, subst, ◌∙◌, arith, inl, inr, Option, Some, None, take}
use Rattle.std.specs.Prelude.{All, IsSomeAnd, option_map, ◌&&◌, nat_lt, nat_le}
use Rattle.std.specs.List.{AllByRecursion, cons_option}
use Rattle.std.specs.List.Sorted.{IsPermutation}
use Rattle.std.specs.Option.{option_map_or}
use Rattle.std.proofs.lemmas.List.Sorted.{All-permutation, IsPermutation-sym, IsPermutation-trans}
use Rattle.std.specs.Ordering.{is_lt}
use Rattle.std.proofs.lemmas.Bool.{leb-true}
use Rattle.std.proofs.lemmas.List.Elements.{All-from_recursion, recursion_from_All}
use Rattle.roll_frame.specs.Cells.{Rows}
use Rattle.roll_frame.specs.declared.claim.Differ.{Differ}
use Rattle.roll_frame.specs.Claims.{AreRowsOf, claim_of, differs_from, least_place}
use Rattle.roll_frame.proofs.Places.{least_place-take}
use Rattle.roll_frame.specs.Order.{in_order, placed, rows_cmp}
use Rattle.roll_frame.specs.Paths.{begins_with, contains, longest}
use Rattle.roll_laws.proofs.Fair.{in_ordered, ordered_in}
use Rattle.roll_laws.proofs.Saved.{In, has_in, in_has}
use Rattle.roll_tree.specs.SavedStates.{Saved, SavedStates, path_of, paths_of, state_named, time_to}
use Rattle.roll_frame.specs.declared.limits.TheConstants.{PATH_LIMIT, PLAYER_LIMIT, TREE_LIMIT}
use Rattle.roll_frame.proofs.Beginnings.{longest_within}
use Rattle.roll_frame.proofs.PathOrder.{rows_cmp_total, same_rows}
use Rattle.roll_frame.proofs.Sorting.{order_again, order_permutes, order_sorted, sorted_once}
use Rattle.roll_plan.specs.Fields.{IsFit, IsLast, planned_in, way_in}
use Rattle.roll_plan.specs.declared.planner.Planner.TheInside.{Inside}
use Rattle.roll_plan.specs.Plans.{CanPlan, IsPlanOf, PlannedRoll, planned_roll, roll_of}
use Rattle.roll_plan.specs.Ranks.{entries_by, marked_for}
use Rattle.roll_plan.specs.Ranks.{path_named}
use Rattle.roll_plan.specs.Spelled.{all_paths, beginnings, spelled}
use Rattle.roll_plan.specs.declared.planner.Taken.{Taken}
use Rattle.roll_plan.proofs.Entries.{entries_on, entry_for}
use Rattle.roll_plan.proofs.Settled.{on, order_on}

-- the longest of paths is the longest of them in order
longest_placed : (p : Rows) (ps : List Rows) (q : Rows) → longest (placed p ps) q ≡ longest (p ∷ ps) q
longest_placed p [] q = refl
longest_placed p (x ∷ xs) q = go (is_lt (rows_cmp p x)) (longest_placed p xs q)
  where
    swap : (a b : Bool) (m n k : ℕ) → cond b (max n (cond a (max m k) k)) (cond a (max m k) k) ≡ cond a (max m (cond b (max n k) k)) (cond b (max n k) k)
    swap true true m n k = grind arith
    swap true false m n k = refl
    swap false true m n k = refl
    swap false false m n k = refl

    go : (b : Bool) → longest (placed p xs) q ≡ longest (p ∷ xs) q → longest (cond b (p ∷ x ∷ xs) (x ∷ placed p xs)) q ≡ longest (p ∷ x ∷ xs) q
    go true e = refl
    go false e =
        ap (λ n. cond (begins_with q x) (max (length x) n) n) e
        ∙ swap (begins_with q p) (begins_with q x) (length p) (length x) (longest xs q)

pub longest_ordered : (ps : List Rows) (q : Rows) → longest (in_order ps) q ≡ longest ps q
longest_ordered [] q = refl
longest_ordered (p ∷ ps) q = longest_placed p (in_order ps) q ∙ ap (λ n. cond (begins_with q p) (max (length p) n) n) (longest_ordered ps q)

rows_of_in : (P : Rows → Type 0) (ps : List Rows) → AllByRecursion P ps → (q : Rows) → In q ps → P q
rows_of_in P [] all q i = absurd i
rows_of_in P (p ∷ ps) all q (inl e) = subst P (sym e) all.0
rows_of_in P (p ∷ ps) all q (inr i) = rows_of_in P ps all.1 q i

all_of_in : (P : Rows → Type 0) (ps : List Rows) → ((q : Rows) → In q ps → P q) → AllByRecursion P ps
all_of_in P [] each = tt
all_of_in P (p ∷ ps) each = (each p (inl refl), all_of_in P ps (λ q i. each q (inr i)))

-- what holds of paths holds of them in order
pub all_ordered : (P : Rows → Type 0) (ps : List Rows) → All P ps → All P (in_order ps)
all_ordered P ps all =
    All-from_recursion P (in_order ps) (all_of_in P (in_order ps) (λ q i. rows_of_in P ps (recursion_from_All P ps all) q (in_ordered q ps i)))

pub root_ordered : (ps : List Rows) → contains ps [] ≡ true → contains (in_order ps) [] ≡ true
root_ordered ps h = in_has (in_order ps) [] (ordered_in [] ps (has_in ps [] h))

-- the same paths have the same order
order_once : (ps qs : List Rows) → IsPermutation ps qs → in_order ps ≡ in_order qs
order_once ps qs moved =
    sorted_once rows_cmp rows_cmp_total same_rows (in_order ps) (in_order qs) (order_sorted ps) (order_sorted qs)
    (IsPermutation-trans (in_order ps) ps (in_order qs) (IsPermutation-sym ps (in_order ps) (order_permutes ps)) (IsPermutation-trans ps qs (in_order qs) moved (order_permutes qs)))

module _ {S : Type 0} (players start_name start to : ℕ) (t : SavedStates S) (can : CanPlan players t to) (starts : start ≡ t.base + longest (paths_of t) (time_to t to)) where
  -- the timeline's rows up to the frame
  abbrev rows : Rows
  rows = time_to t to

  end_is : t.base + length rows ≡ to
  end_is = omega (arith, length-take (to - t.base) t.time, can.from, can.known)

  -- by the marks, an entry is that of the plan
  marked_is : (state : ℕ) (path : Rows) → marked_for t start to state (path_of t.base path) ≡ entry_for (planned_roll t rows) state path
  marked_is state path =
      ap (λ n. cond (nat_lt n end && nat_le end to) (named (least_place t.base path t.time)) None) starts
      ∙ ap (λ n. cond (nat_lt from end && nat_le end n) (named (least_place t.base path t.time)) None) (sym end_is)
      ∙ go (nat_lt from end) (nat_le end (t.base + length rows)) refl
    where
      from : ℕ
      from = t.base + longest (paths_of t) rows

      end : ℕ
      end = t.base + length path

      named : Option (ℕ × ℕ) → Option Differ
      named o = option_map (λ place. record { state = state; frame = place.0; player = place.1 }) o

      go : (a b : Bool) → nat_le end (t.base + length rows) ≡ b → cond (a && b) (named (least_place t.base path t.time)) None ≡ cond (a && b) (named (least_place t.base path rows)) None
      go true true e =
          let within : t.base + length path ≤ t.base + length rows = leb-true end (t.base + length rows) e in
          let short : length path ≤ to - t.base = omega (arith, within, end_is) in
          ap named (least_place-take t.base (to - t.base) path t.time short)
      go true false e = refl
      go false b e = refl

  all_marked : (state : ℕ) (paths : List Rows) → entries_by (marked_for t start to) state (map (path_of t.base) paths) ≡ entries_by (entry_for (planned_roll t rows)) state paths
  all_marked state [] = refl
  all_marked state (path ∷ paths) =
      ap (λ o. cons_option o (entries_by (marked_for t start to) (suc state) (map (path_of t.base) paths))) (marked_is state path)
      ∙ ap (cons_option (entry_for (planned_roll t rows) state path)) (all_marked (suc state) paths)

  planned_is_fit : 1 ≤ players → players ≤ PLAYER_LIMIT → length t.time ≤ PATH_LIMIT → contains (paths_of t) [] ≡ true → IsFit players (planned_roll t rows)
  planned_is_fit some few short root =
      record {
        some = some;
        few = few;
        base = can.base;
        short = omega (arith, end_is, can.known, short);
        time = can.time;
        paths = all_ordered (AreRowsOf players) (paths_of t) can.paths;
        root = root_ordered (paths_of t) root;
        from_is = let same : longest (in_order (paths_of t)) rows ≡ longest (paths_of t) rows = longest_ordered (paths_of t) rows in omega (arith, same);
        ordered = order_again (paths_of t);
      }

  -- the entries that were made by the marks are those of the plan's claim
  entries_are : (settled : Rows) → length settled ≡ t.base
      → entries_by (marked_for t start to) 0 (map (path_of t.base) (in_order (paths_of t))) ≡ (claim_of players (roll_of settled (planned_roll t rows))).differs
  entries_are settled e =
      all_marked 0 (in_order (paths_of t))
      ∙ sym (entries_on (planned_roll t rows) settled 0 (in_order (paths_of t)) e)
      ∙ sym (ap (differs_from (roll_of settled (planned_roll t rows)) 0) (order_on settled (in_order (paths_of t)) ∙ ap (map (on settled)) (order_again (paths_of t))))

  -- the roll goes on from where it starts
  pub goes_on : start ≤ to
  goes_on = omega (arith, starts, end_is, longest_within (paths_of t) rows)

  taken_short : (on_way : ℕ) (taken : List Taken) → IsPermutation (paths_of t) (all_paths (path_named t start_name) on_way taken) → All (λ (path : Rows). length path ≤ PATH_LIMIT) (paths_of t) → All (λ (path : Rows). length path ≤ PATH_LIMIT) (spelled (path_named t start_name) taken)
  taken_short on_way taken moved short =
      let way = path_named t start_name in
      All-from_recursion (λ (path : Rows). length path ≤ PATH_LIMIT) (spelled way taken)
      (front (spelled way taken) (beginnings way on_way) (recursion_from_All (λ (path : Rows). length path ≤ PATH_LIMIT) (all_paths way on_way taken) (All-permutation (λ (path : Rows). length path ≤ PATH_LIMIT) (paths_of t) (all_paths way on_way taken) moved short)))
    where
      front : (ps qs : List Rows) → AllByRecursion (λ (path : Rows). length path ≤ PATH_LIMIT) (ps ++ qs) → AllByRecursion (λ (path : Rows). length path ≤ PATH_LIMIT) ps
      front [] qs all = tt
      front (p ∷ ps) qs all = (all.0, front ps qs all.1)

  -- the fields of a planner after a plan
  pub record IsDone (p : Inside) : Type 0 where
    pub some : 1 ≤ p.players
    pub few : p.players ≤ PLAYER_LIMIT
    pub players_are : p.players ≡ players
    pub root : contains (paths_of t) [] ≡ true
    pub short : length t.time ≤ PATH_LIMIT
    pub base : p.base ≡ t.base
    pub time : p.time.items ≡ rows
    pub way : way_in p ≡ path_named t start_name
    pub taken : IsPermutation (paths_of t) (all_paths (path_named t start_name) p.on_way p.taken.items)
    pub on_way : p.on_way ≤ length (path_named t start_name) + 1
    pub others : length p.taken.items ≤ TREE_LIMIT
    pub paths : All (λ (path : Rows). length path ≤ PATH_LIMIT) (paths_of t)
    pub to_is : p.plan.to ≡ to
    pub from_is : p.plan.from ≡ start
    pub rerun : p.plan.rerun ≡ p.plan.to - p.plan.from
    pub differs : p.plan.differs.items ≡ entries_by (marked_for t start to) 0 (map (path_of t.base) (in_order (paths_of t)))

  -- the start ends where its path does
  pub start_ends : IsSomeAnd (state_named t start_name) (λ s. s.path ≡ take (longest (paths_of t) rows) rows) → start ≡ t.base + length (path_named t start_name)
  start_ends there = go (state_named t start_name) there
    where
      go : (o : Option (Saved S)) → IsSomeAnd o (λ s. s.path ≡ take (longest (paths_of t) rows) rows) → start ≡ t.base + length (option_map_or (λ s. s.path) o [])
      go None h = absurd h
      go (Some s) h = omega (arith, starts, ap (λ (l : Rows). length l) h, length-take (longest (paths_of t) rows) rows, longest_within (paths_of t) rows)

  -- the rows that lead to the start are the path of the state there
  pub way_is : IsSomeAnd (state_named t start_name) (λ s. s.path ≡ take (longest (paths_of t) rows) rows) → (p : Inside) → p.base ≡ t.base → p.plan.from ≡ start → p.time.items ≡ rows → way_in p ≡ path_named t start_name
  way_is there p base from time =
      let long : p.plan.from - p.base ≡ longest (paths_of t) rows = omega (arith, base, from, starts) in
      ap (take (p.plan.from - p.base)) time ∙ ap (λ n. take n rows) long ∙ go (state_named t start_name) there
    where
      go : (o : Option (Saved S)) → IsSomeAnd o (λ s. s.path ≡ take (longest (paths_of t) rows) rows) → take (longest (paths_of t) rows) rows ≡ option_map_or (λ s. s.path) o []
      go None h = absurd h
      go (Some s) h = sym h

  pub made_is : (p : Inside) → IsDone p → planned_in p ≡ planned_roll t rows
  made_is p done =
      let kept_is : in_order (all_paths (way_in p) p.on_way p.taken.items) ≡ in_order (paths_of t) = ap (λ (way : Rows). in_order (all_paths way p.on_way p.taken.items)) done.way ∙ sym (order_once (paths_of t) (all_paths (path_named t start_name) p.on_way p.taken.items) done.taken) in
      λ i. record { settled = done.base i; kept = kept_is i; time = done.time i; from = (done.from_is ∙ starts) i }

  done_plan : (p : Inside) → IsDone p → IsPlanOf players (planned_roll t rows) p.plan
  done_plan p done =
      record {
        to = done.to_is ∙ sym end_is;
        from = done.from_is ∙ starts;
        rerun = done.rerun;
        differs = λ settled e. done.differs ∙ entries_are settled e;
      }

  pub done_last : (p : Inside) → IsDone p → IsLast p
  done_last p done =
      let made = made_is p done in
      record {
        fit = subst (λ (n : ℕ). IsFit n (planned_in p)) (sym done.players_are) (subst (IsFit players) (sym made) (planned_is_fit (omega (arith, done.some, done.players_are)) (omega (arith, done.few, done.players_are)) done.short done.root));
        plan = subst (λ (n : ℕ). IsPlanOf n (planned_in p) p.plan) (sym done.players_are) (subst (λ (m : PlannedRoll). IsPlanOf players m p.plan) (sym made) (done_plan p done));
        on_way = subst (λ (way : Rows). p.on_way ≤ length way + 1) (sym done.way) done.on_way;
        few = done.others;
        paths = subst (λ (way : Rows). All (λ (path : Rows). length path ≤ PATH_LIMIT) (spelled way p.taken.items)) (sym done.way) (taken_short p.on_way p.taken.items done.taken done.paths);
      }
