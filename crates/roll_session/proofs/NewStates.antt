-- A branch's states on their way into the tree.
use Rattle.std.proofs.Common.{◌≡◌, ℕ, suc, ◌+◌, ◌-◌, ◌<◌, ◌≤◌, ◌^◌, List, [], ◌∷◌, ◌++◌, length, get_or, take, drop, refl, ap, sym, ◌∙◌, true, false, arith, subst, inl, inr, length-take, length-append, Some, None}
use Rattle.std.specs.Prelude.{◌⊎◌, IfSome, IsSomeAnd}
use Rattle.std.proofs.lemmas.Bool.{false_from_ne_true}
use Rattle.std.proofs.lemmas.List.{append-nil, append_assoc, length-map, map-append, take_more, length-drop, get_or-drop, drop-drop}
use Rattle.std.proofs.lemmas.List.Elements.{All-push}
use Rattle.roll_frame.specs.declared.limits.TheConstants.{PATH_LIMIT}
use Rattle.roll_frame.specs.declared.route.Route.{Route}
use Rattle.roll_frame.specs.declared.row.Cell.{Cell}
use Rattle.roll_frame.specs.Cells.{Rows}
use Rattle.roll_frame.specs.Paths.{begins_with, contains, longest, prefixes}
use Rattle.roll_laws.proofs.Grafted.{possible_few}
use Rattle.roll_laws.proofs.Prefixes.{in_prefixes}
use Rattle.roll_frame.proofs.Beginnings.{begins}
use Rattle.roll_laws.proofs.Saved.{In, has_in, in_either, longest_at_least}
use Rattle.roll_tree.specs.SavedStates.{CanGrow, Saved, SavedStates, paths_of, state_named, with_state}
use Rattle.roll_session.specs.Grafting.{KeepsWorth, ahead_of, end_of, kept_to, rows_of_route, possible_to, start_of}
use Rattle.roll_session.specs.Saves.{Standing}
use Rattle.roll_laws.proofs.Few.{length_prefixes}
use Rattle.roll_session.proofs.Rolling.{held_last, held_same, if_some, some_is, some_there}

-- one more prefix of rows is not among paths and their continuation
pub fresh_on : (R : Rows) (ps : List Rows) (j : ℕ) → longest ps R + j < length R
    → contains (ps ++ prefixes R (longest ps R) j) (take (longest ps R + j + 1) R) ≡ false
fresh_on R ps j h = false_from_ne_true (contains (ps ++ prefixes R (longest ps R) j) q) (λ e. go (in_either q ps (prefixes R (longest ps R) j) (has_in (ps ++ prefixes R (longest ps R) j) q e)))
  where
    q : Rows
    q = take (longest ps R + j + 1) R

    long : length q ≡ longest ps R + j + 1
    long = omega (arith, h, length-take (longest ps R + j + 1) R)

    begun : begins_with R q ≡ true
    begun = begins R q (ap (λ k. take k R) (sym long))

    go : In q ps ⊎ In q (prefixes R (longest ps R) j) → ⊥
    go (inl i) = omega (arith, long, longest_at_least ps R q i begun)
    go (inr i) = let r = in_prefixes q R (longest ps R) j i in omega (arith, long, r.2, ap length r.3, length-take r.0 R)

-- what is saved when the states up to a frame are in the tree, and what is left of them
pub record IsHung {S : Type 0} (old now : Standing S) (route : Route) (states left : List S) (from frame at : ℕ) : Type 0 where
  pub low : from ≤ frame
  pub inputs : now.inputs ≡ old.inputs
  pub room : now.room ≡ old.room
  pub base : now.tree.base ≡ old.inputs.settled
  pub paths : paths_of now.tree ≡ paths_of old.tree ++ prefixes (ahead_of old.inputs route) (longest (paths_of old.tree) (ahead_of old.inputs route)) (frame - from)
  pub here : IsSomeAnd (state_named now.tree at) (λ u. u.path ≡ take (frame - old.inputs.settled) (ahead_of old.inputs route))
  pub values : KeepsWorth old now route states
  pub left_is : left ≡ drop (frame - start_of route) states

module _ {S : Type 0} (old : Standing S) (route : Route) (states : List S) (from : ℕ) (is_from : from ≡ kept_to old route) (base : route.path.base ≤ old.inputs.settled) (reached : old.inputs.settled ≤ end_of route) (starts : start_of route ≤ kept_to old route) where
  -- how many rows there are past the settled frame
  pub long_ahead : length (ahead_of old.inputs route) ≡ end_of route - old.inputs.settled
  long_ahead = omega (arith, length-drop (old.inputs.settled - route.path.base) (rows_of_route route), base, reached)

  few_possible : possible_to old.inputs route ≤ end_of route
  few_possible = omega (arith, possible_few route.path.base old.inputs.players (rows_of_route route))

  -- before the first
  pub hung_start : (left : List S) (at : ℕ) → old.tree.base ≡ old.inputs.settled → IsSomeAnd (state_named old.tree at) (λ u. u.path ≡ take (longest (paths_of old.tree) (ahead_of old.inputs route)) (ahead_of old.inputs route)) → left ≡ drop (from - start_of route) states
      → IsHung old old route states left from from at
  hung_start left at same here left_is =
      let none : from - from ≡ 0 = omega arith in
      let place : from - old.inputs.settled ≡ longest (paths_of old.tree) (ahead_of old.inputs route) = omega (arith, is_from) in
      record {
        low = omega arith;
        inputs = refl;
        room = refl;
        base = same;
        paths = rw none (sym (append-nil (paths_of old.tree)));
        here = rw place here;
        values = λ value want all new. all;
        left_is = left_is;
      }

  module _ (now : Standing S) (left : List S) (frame at : ℕ) (w : IsHung old now route states left from frame at) (high : frame < possible_to old.inputs route) where
    path_is : (u : Saved S) → state_named now.tree at ≡ Some u → u.path ≡ take (frame - old.inputs.settled) (ahead_of old.inputs route)
    path_is u e =
        let s = some_is (state_named now.tree at) (λ u. u.path ≡ take (frame - old.inputs.settled) (ahead_of old.inputs route)) w.here in
        ap (λ (v : Saved S). v.path) (held_same (state_named now.tree at) u s.0 e s.1) ∙ s.2

    -- the place of the next row
    pub place_fits : frame - old.inputs.settled < length (ahead_of old.inputs route)
    place_fits = omega (arith, long_ahead, few_possible, high, w.low, is_from)

    more_is : (row : List Cell) → row ≡ get_or (ahead_of old.inputs route) (frame - old.inputs.settled) row → take (frame - old.inputs.settled) (ahead_of old.inputs route) ++ row ∷ [] ≡ take (frame + 1 - old.inputs.settled) (ahead_of old.inputs route)
    more_is row e =
        let place : frame - old.inputs.settled + 1 ≡ frame + 1 - old.inputs.settled = omega (arith, w.low, is_from) in
        ap (λ (r : List Cell). take (frame - old.inputs.settled) (ahead_of old.inputs route) ++ r ∷ []) e
        ∙ sym (take_more (ahead_of old.inputs route) (frame - old.inputs.settled) row place_fits) ∙ ap (λ k. take k (ahead_of old.inputs route)) place

    -- the next state fits
    pub hung_fits : (row : List Cell) → row ≡ get_or (ahead_of old.inputs route) (frame - old.inputs.settled) row → end_of route ≤ old.inputs.settled + PATH_LIMIT → old.inputs.settled + PATH_LIMIT < 2 ^ 32 → CanGrow now.tree at row
    hung_fits row e near wide =
        let s = some_is (state_named now.tree at) (λ u. u.path ≡ take (frame - old.inputs.settled) (ahead_of old.inputs route)) w.here in
        let place : longest (paths_of old.tree) (ahead_of old.inputs route) + (frame - from) + 1 ≡ frame + 1 - old.inputs.settled = omega (arith, w.low, is_from) in
        record {
          kept = some_there (state_named now.tree at) s.0 s.1;
          short = λ u h. omega (arith, ap length (path_is u h), length-take (frame - old.inputs.settled) (ahead_of old.inputs route), place_fits, long_ahead, near);
          frames = λ u h. omega (arith, ap length (path_is u h), length-take (frame - old.inputs.settled) (ahead_of old.inputs route), place_fits, long_ahead, near, w.base, wide);
          fresh = λ u h. rw (w.paths, path_is u h, more_is row e) (subst (λ k. contains (paths_of old.tree ++ prefixes (ahead_of old.inputs route) (longest (paths_of old.tree) (ahead_of old.inputs route)) (frame - from)) (take k (ahead_of old.inputs route)) ≡ false) place (fresh_on (ahead_of old.inputs route) (paths_of old.tree) (frame - from) (omega (arith, place, place_fits))));
        }

    -- there is room for it
    pub hung_few : (limit : ℕ) → length old.tree.states + (possible_to old.inputs route - kept_to old route) ≤ limit → length now.tree.states < limit
    hung_few limit fits =
        let many = ap length w.paths ∙ length-append (paths_of old.tree) (prefixes (ahead_of old.inputs route) (longest (paths_of old.tree) (ahead_of old.inputs route)) (frame - from)) in
        omega (arith, many, length-map now.tree.states (λ (u : Saved S). u.path), length-map old.tree.states (λ (u : Saved S). u.path), length_prefixes (ahead_of old.inputs route) (longest (paths_of old.tree) (ahead_of old.inputs route)) (frame - from), fits, w.low, is_from, high)

    -- its snapshot
    next_is : (d : S) → get_or left 0 d ≡ get_or states (frame - start_of route) d
    next_is d =
        let place : frame - start_of route + 0 ≡ frame - start_of route = omega arith in
        ap (λ (l : List S). get_or l 0 d) w.left_is ∙ get_or-drop (frame - start_of route) states 0 d ∙ ap (λ k. get_or states k d) place

    -- there is one left
    pub left_some : length states ≡ length route.rows.items → 0 < length left
    left_some many = omega (arith, ap length w.left_is, length-drop (frame - start_of route) states, many, few_possible, length-append route.path.rows.items route.rows.items, w.low, is_from, starts, high)

    -- one state more
    pub hung_more : (new : Standing S) (rest : List S) (name : ℕ) (snapshot : S) (row : List Cell) → row ≡ get_or (ahead_of old.inputs route) (frame - old.inputs.settled) row → get_or left 0 snapshot ≡ snapshot → rest ≡ drop 1 left
        → new.inputs ≡ now.inputs → new.room ≡ now.room → state_named now.tree name ≡ None → IfSome (state_named now.tree at) (λ u. new.tree ≡ with_state now.tree (record { name = name; path = u.path ++ row ∷ []; snapshot = snapshot }))
        → IsHung old new route states rest from (frame + 1) name
    hung_more new rest name snapshot row e first rest_is inputs room vacant added =
        let s = some_is (state_named now.tree at) (λ u. u.path ≡ take (frame - old.inputs.settled) (ahead_of old.inputs route)) w.here in
        let u : Saved S = record { name = name; path = s.0.path ++ row ∷ []; snapshot = snapshot } in
        let tree : new.tree ≡ with_state now.tree u = if_some (state_named now.tree at) s.0 (λ v. new.tree ≡ with_state now.tree (record { name = name; path = v.path ++ row ∷ []; snapshot = snapshot })) s.1 added in
        let path : u.path ≡ take (frame + 1 - old.inputs.settled) (ahead_of old.inputs route) = ap (λ (q : Rows). q ++ row ∷ []) s.2 ∙ more_is row e in
        let step : frame + 1 - from ≡ suc (frame - from) = omega (arith, w.low) in
        let last : frame + 1 - old.inputs.settled ≡ longest (paths_of old.tree) (ahead_of old.inputs route) + suc (frame - from) = omega (arith, w.low, is_from) in
        let place : frame - start_of route + 1 ≡ frame + 1 - start_of route = omega (arith, w.low, is_from, starts) in
        record {
          low = omega (arith, w.low);
          inputs = inputs ∙ w.inputs;
          room = room ∙ w.room;
          base = ap (λ (t : SavedStates S). t.base) tree ∙ w.base;
          paths = ap paths_of tree ∙ map-append (λ (v : Saved S). v.path) now.tree.states (u ∷ []) ∙ rw (w.paths, path, last, step) (append_assoc (paths_of old.tree) (prefixes (ahead_of old.inputs route) (longest (paths_of old.tree) (ahead_of old.inputs route)) (frame - from)) (take (longest (paths_of old.tree) (ahead_of old.inputs route) + suc (frame - from)) (ahead_of old.inputs route) ∷ []));
          here = rw (tree, held_last now.tree u vacant) path;
          values = λ value want all given.
              let this : value snapshot ≡ want (take (frame + 1 - old.inputs.settled) (ahead_of old.inputs route)) = ap value (sym first ∙ next_is snapshot) ∙ given frame snapshot (omega (arith, w.low, is_from)) high in
              rw tree (All-push (λ v. value v.snapshot ≡ want v.path) now.tree.states u (w.values value want all given) (this ∙ ap want (sym path)));
          left_is = rest_is ∙ ap (drop 1) w.left_is ∙ drop-drop 1 (frame - start_of route) states ∙ ap (λ k. drop k states) place;
        }

-- the states from the first possible one on
pub rest_fits : {S : Type 0} (old : Standing S) (route : Route) → possible_to old.inputs route ≤ start_of route + length route.rows.items
rest_fits old route = omega (arith, possible_few route.path.base old.inputs.players (rows_of_route route), length-append route.path.rows.items route.rows.items)
