-- Taking down the states of a tree, those on the way to one of them and the others.
use Rattle.std.proofs.Common.{◌≡◌, ℕ, suc, ◌+◌, ◌-◌, ◌≤◌, ◌<◌, List, [], ◌∷◌, ◌++◌, length, length-append, length-take, append_assoc, map, take, get_or, Bool, true, false, cond, eqb, refl, sym, ap, subst, ◌∙◌, arith, inl, inr, Option, Some, None}
use Rattle.std.specs.Prelude.{◌⊎◌, IfSome, IsSomeAnd, position, slice_get}
use Rattle.std.specs.List.{find, position_from}
use Rattle.std.specs.List.Sorted.{IsPermutation}
use Rattle.std.specs.Option.{option_eq, option_map_or}
use Rattle.std.proofs.lemmas.Bool.{eqb-true, false≢true}
use Rattle.std.proofs.lemmas.Iterator.Adapters.{position_from-zero}
use Rattle.std.proofs.lemmas.List.{get_or-take, map-append}
use Rattle.std.proofs.lemmas.List.Sorted.{IsPermutation-append_left, IsPermutation-append_right, IsPermutation-refl, IsPermutation-to_front, IsPermutation-trans}
use Rattle.std.proofs.lemmas.Option.{get_or_from_slice_get, none-some, same_Some, slice_get_within}
use Rattle.roll_frame.specs.Cells.{Rows}
use Rattle.roll_tree.specs.SavedStates.{SavedStates, Saved, state_named, IsAbove, IsOrdered}
use Rattle.roll_tree.specs.declared.tree.Above.{Above}
use Rattle.roll_plan.specs.Ranks.{IsTaken, IsWay, path_named}
use Rattle.roll_plan.specs.Spelled.{all_paths, beginnings, path_before, path_in, spelled}
use Rattle.roll_plan.specs.declared.planner.Taken.{Taken}
use Rattle.roll_plan.proofs.Beginnings.{beginnings_more}
use Rattle.roll_plan.proofs.Ranking.{IsAt}
use Rattle.roll_plan.proofs.Spelling.{spelled-push}

module _ {X : Type 0} (test : X → Bool) where
  -- what is at the place of the first that passes a test
  found_at : {Y : Type 0} (f : X → Y) (d : Y) (j : ℕ) (xs : List X) (place : ℕ) → position_from test j xs ≡ Some place
      → (i : ℕ) × (x : X) × (place ≡ j + i) × (test x ≡ true) × (get_or (map f xs) i d ≡ f x)
  found_at f d j [] place e = absurd (none-some place e)
  found_at f d j (x ∷ xs) place e = go (test x) refl (found_at f d (j + 1) xs place)
    where
      go : (b : Bool) → test x ≡ b
          → (position_from test (j + 1) xs ≡ Some place → (i : ℕ) × (y : X) × (place ≡ j + 1 + i) × (test y ≡ true) × (get_or (map f xs) i d ≡ f y))
          → (i : ℕ) × (y : X) × (place ≡ j + i) × (test y ≡ true) × (get_or (map f (x ∷ xs)) i d ≡ f y)
      go true is rest =
          let there : j ≡ place = same_Some _ _ (sym (ap (λ b. cond b (Some j) (position_from test (j + 1) xs)) is) ∙ e) in
          (0, x, omega (arith, there), is, refl)
      go false is rest =
          let r = rest (sym (ap (λ b. cond b (Some j) (position_from test (j + 1) xs)) is) ∙ e) in
          (suc r.0, r.1, omega (arith, r.2), r.3, r.4)

  -- what isn't among one more was not among these, nor is it the last
  none_of_more : (j : ℕ) (xs : List X) (x : X) → position_from test j (xs ++ x ∷ []) ≡ None → (position_from test j xs ≡ None) × (test x ≡ false)
  none_of_more j [] x e = go (test x) refl
    where
      go : (b : Bool) → test x ≡ b → (position_from test j [] ≡ None) × (test x ≡ false)
      go true is = absurd (none-some j (sym (sym (ap (λ b. cond b (Some j) None) is) ∙ e)))
      go false is = (refl, is)
  none_of_more j (y ∷ ys) x e = go (test y) refl (none_of_more (j + 1) ys x)
    where
      go : (b : Bool) → test y ≡ b → (position_from test (j + 1) (ys ++ x ∷ []) ≡ None → (position_from test (j + 1) ys ≡ None) × (test x ≡ false))
          → (cond (test y) (Some j) (position_from test (j + 1) ys) ≡ None) × (test x ≡ false)
      go true is rest = absurd (none-some j (sym (sym (ap (λ b. cond b (Some j) (position_from test (j + 1) (ys ++ x ∷ []))) is) ∙ e)))
      go false is rest =
          let r = rest (sym (ap (λ b. cond b (Some j) (position_from test (j + 1) (ys ++ x ∷ []))) is) ∙ e) in
          (ap (λ b. cond b (Some j) (position_from test (j + 1) ys)) is ∙ r.0, r.1)

abbrev is_of : ℕ → Taken → Bool
is_of name k = eqb k.node name

position_is : (name : ℕ) (ks : List Taken) → position (is_of name) ks ≡ position_from (is_of name) 0 ks
position_is name ks = position_from-zero (is_of name) ks

module _ {S : Type 0} (t : SavedStates S) (way : Rows) where
  -- the first so many states of the tree, and what was taken down of them
  pub record AreTaken (count on_way : ℕ) (taken : List Taken) : Type 0 where
    pub spells : spelled way taken ≡ map (λ (k : Taken). path_named t k.node) taken
    pub others : (name : ℕ) (u : Saved S) → find (λ s. eqb s.name name) (take count t.states) ≡ Some u → position (is_of name) taken ≡ None → u.path ≡ take (length u.path) way
    pub paths : IsPermutation (map (λ (s : Saved S). s.path) (take count t.states)) (all_paths way on_way taken)

  no_states : (states : List (Saved S)) → take 0 states ≡ []
  no_states [] = refl
  no_states (s ∷ states) = refl

  pub none_taken : AreTaken 0 0 []
  none_taken =
      record {
        spells = refl;
        others = λ name u found _. absurd (none-some u (sym (ap (find (λ s. eqb s.name name)) (no_states t.states)) ∙ found));
        paths = subst (λ (l : List (Saved S)). IsPermutation (map (λ (s : Saved S). s.path) l) []) (sym (no_states t.states)) (IsPermutation-refl []);
      }

  -- of one state more, it is found among those before or is itself the one
  found_more : (before : List (Saved S)) (s : Saved S) (name : ℕ) (u : Saved S) → find (λ x. eqb x.name name) (before ++ s ∷ []) ≡ Some u
      → (find (λ x. eqb x.name name) before ≡ Some u) ⊎ ((s ≡ u) × (eqb s.name name ≡ true))
  found_more [] s name u e = go (eqb s.name name) refl
    where
      go : (b : Bool) → eqb s.name name ≡ b → (None ≡ Some u) ⊎ ((s ≡ u) × (eqb s.name name ≡ true))
      go true is = inr (same_Some _ _ (sym (ap (λ b. cond b (Some s) None) is) ∙ e), is)
      go false is = absurd (none-some u (sym (ap (λ b. cond b (Some s) None) is) ∙ e))
  found_more (x ∷ xs) s name u e = go (eqb x.name name) refl (found_more xs s name u)
    where
      go : (b : Bool) → eqb x.name name ≡ b
          → (find (λ y. eqb y.name name) (xs ++ s ∷ []) ≡ Some u → (find (λ y. eqb y.name name) xs ≡ Some u) ⊎ ((s ≡ u) × (eqb s.name name ≡ true)))
          → (cond (eqb x.name name) (Some x) (find (λ y. eqb y.name name) xs) ≡ Some u) ⊎ ((s ≡ u) × (eqb s.name name ≡ true))
      go true is rest = inl (ap (λ b. cond b (Some x) (find (λ y. eqb y.name name) xs)) is ∙ sym (ap (λ b. cond b (Some x) (find (λ y. eqb y.name name) (xs ++ s ∷ []))) is) ∙ e)
      go false is rest = later (rest (sym (ap (λ b. cond b (Some x) (find (λ y. eqb y.name name) (xs ++ s ∷ []))) is) ∙ e))
        where
          later : (find (λ y. eqb y.name name) xs ≡ Some u) ⊎ ((s ≡ u) × (eqb s.name name ≡ true)) → (cond (eqb x.name name) (Some x) (find (λ y. eqb y.name name) xs) ≡ Some u) ⊎ ((s ≡ u) × (eqb s.name name ≡ true))
          later (inl f) = inl (ap (λ b. cond b (Some x) (find (λ y. eqb y.name name) xs)) is ∙ f)
          later (inr r) = inr r

  path_at : (names : List ℕ) (count : ℕ) (at : IsAt t names count) → path_named t (get_or names count 0) ≡ at.state.path
  path_at names count at = ap (λ (o : Option (Saved S)). option_map_or (λ s. s.path) o []) at.held_is

  find_named : (states : List (Saved S)) (name : ℕ) (u : Saved S) → find (λ s. eqb s.name name) states ≡ Some u → u.name ≡ name
  find_named [] name u e = absurd (none-some u e)
  find_named (s ∷ states) name u e = go (eqb s.name name) refl (find_named states name u)
    where
      go : (b : Bool) → eqb s.name name ≡ b → (find (λ x. eqb x.name name) states ≡ Some u → u.name ≡ name) → u.name ≡ name
      go true is ih =
          let same : s ≡ u = same_Some _ _ (sym (ap (λ (b : Bool). cond b (Some s) (find (λ x. eqb x.name name) states)) is) ∙ e) in
          ap (λ (x : Saved S). x.name) (sym same) ∙ eqb-true s.name name is
      go false is ih = ih (sym (ap (λ (b : Bool). cond b (Some s) (find (λ x. eqb x.name name) states)) is) ∙ e)

  -- the next state on the way, by its name, and the names of those below it, the last of them first
  pub record IsNext (on_way : ℕ) (next : Option ℕ) (below : List ℕ) : Type 0 where
    pub at : IfSome next (λ name. IsSomeAnd (state_named t name) (λ s. s.path ≡ take on_way way))
    pub left : IfSome next (λ _. on_way + length below ≡ length way)
    pub each : (k : ℕ) → k < length below → IsSomeAnd (state_named t (get_or below k 0)) (λ s. s.path ≡ take (length way - k) way)
    pub within : on_way ≤ length way + 1

  no_rows : (rows : Rows) → [] ≡ take 0 rows
  no_rows [] = refl
  no_rows (row ∷ rows) = refl

  -- it is the root first
  pub first_next : (root : ℕ) (names : List ℕ) → IsSomeAnd (state_named t root) (λ s. s.path ≡ []) → IsWay t way names → IsNext 0 (Some root) names
  first_next root names top w =
      record {
        at = go (state_named t root) top;
        left = omega (arith, w.count);
        each = w.each;
        within = omega arith;
      }
    where
      go : (o : Option (Saved S)) → IsSomeAnd o (λ s. s.path ≡ []) → IsSomeAnd o (λ s. s.path ≡ take 0 way)
      go None h = absurd h
      go (Some u) h = h ∙ no_rows way

  -- what is next behind it
  pub next_more : (on_way name : ℕ) (below : List ℕ) → IsNext on_way (Some name) below → (next : Option ℕ) (rest : List ℕ) → next ≡ slice_get below (length below - 1) → rest ≡ take (length below - 1) below → IsNext (on_way + 1) next rest
  next_more on_way name below n next rest popped left_is = go next refl
    where
      fewer : length rest ≡ length below - 1
      fewer = omega (arith, ap (λ (l : List ℕ). length l) left_is, length-take (length below - 1) below)

      each : (k : ℕ) → k < length rest → IsSomeAnd (state_named t (get_or rest k 0)) (λ s. s.path ≡ take (length way - k) way)
      each k low =
          let same : get_or rest k 0 ≡ get_or below k 0 = ap (λ (l : List ℕ). get_or l k 0) left_is ∙ get_or-take (length below - 1) below k 0 (omega (arith, low, fewer)) in
          subst (λ m. IsSomeAnd (state_named t m) (λ s. s.path ≡ take (length way - k) way)) (sym same) (n.each k (omega (arith, low, fewer)))

      go : (o : Option ℕ) → next ≡ o → IsNext (on_way + 1) next rest
      go None e = subst (λ o. IsNext (on_way + 1) o rest) (sym e) (record { at = tt; left = tt; each = each; within = omega (arith, n.left) })
      go (Some m) e =
          let there : slice_get below (length below - 1) ≡ Some m = sym popped ∙ e in
          let some : length below - 1 < length below = slice_get_within below (length below - 1) m there in
          let deep : length way - (length below - 1) ≡ on_way + 1 = omega (arith, n.left, some) in
          subst (λ o. IsNext (on_way + 1) o rest) (sym e)
          (record {
            at = subst (λ d. IsSomeAnd (state_named t m) (λ s. s.path ≡ take d way)) deep
                (subst (λ x. IsSomeAnd (state_named t x) (λ s. s.path ≡ take (length way - (length below - 1)) way)) (get_or_from_slice_get below (length below - 1) m 0 there) (n.each (length below - 1) some));
            left = omega (arith, n.left, some, fewer);
            each = each;
            within = omega (arith, n.left);
          })

  -- a state of that name is on the way
  pub met_is : (on_way name : ℕ) (below : List ℕ) → IsNext on_way (Some name) below → (s : Saved S) → state_named t name ≡ Some s → s.path ≡ take on_way way
  met_is on_way name below n s named = subst (λ (o : Option (Saved S)). IsSomeAnd o (λ u. u.path ≡ take on_way way)) named n.at

  pub met_name : (next : Option ℕ) (name : ℕ) → option_eq eqb next (Some name) ≡ true → next ≡ Some name
  met_name None name e = absurd (false≢true e)
  met_name (Some n) name e = ap Some (eqb-true n name e)

  -- a state on the way
  pub way_more : (names : List ℕ) (count on_way : ℕ) (taken : List Taken) → AreTaken count on_way taken → (at : IsAt t names count) → on_way ≤ length way → at.state.path ≡ take on_way way → AreTaken (count + 1) (on_way + 1) taken
  way_more names count on_way taken so_far at low is =
      record {
        spells = so_far.spells;
        others = λ name u found none. go name u none (found_more (take count t.states) at.state name u (sym (ap (find (λ s. eqb s.name name)) at.more) ∙ found));
        paths =
            subst (λ (l : List Rows). IsPermutation l (all_paths way (on_way + 1) taken)) (sym (ap (map (λ (s : Saved S). s.path)) at.more ∙ map-append (λ (s : Saved S). s.path) (take count t.states) (at.state ∷ [])))
            (subst (λ (l : List Rows). IsPermutation (before ++ at.state.path ∷ []) l) (append_assoc (spelled way taken) (beginnings way on_way) (at.state.path ∷ []) ∙ sym (ap (λ (l : List Rows). spelled way taken ++ l) (beginnings_more way on_way ∙ ap (λ (p : Rows). beginnings way on_way ++ p ∷ []) (sym is))))
            (IsPermutation-append_left (at.state.path ∷ []) before (all_paths way on_way taken) so_far.paths));
      }
    where
      before : List Rows
      before = map (λ (s : Saved S). s.path) (take count t.states)

      go : (name : ℕ) (u : Saved S) → position (is_of name) taken ≡ None → (find (λ x. eqb x.name name) (take count t.states) ≡ Some u) ⊎ ((at.state ≡ u) × (eqb at.state.name name ≡ true)) → u.path ≡ take (length u.path) way
      go name u none (inl f) = so_far.others name u f none
      go name u none (inr r) =
          let path : u.path ≡ take on_way way = ap (λ (s : Saved S). s.path) (sym r.0) ∙ is in
          let long : on_way ≡ length u.path = omega (arith, low, ap (λ (l : Rows). length l) path, length-take on_way way) in
          path ∙ ap (λ n. take n way) long

  -- the path of what was taken down, by those before
  module _ (ordered : IsOrdered t) (names : List ℕ) (count on_way : ℕ) (taken : List Taken) (so_far : AreTaken count on_way taken) (at : IsAt t names count) (k : Taken) (is : IsTaken t (get_or names count 0) k) where
    abbrev s : Saved S
    s = at.state

    front_is : (name : ℕ) (u : Saved S) → state_named t name ≡ Some u → find (λ x. eqb x.name name) (take count t.states) ≡ Some u → k.depth ≡ length u.path → path_before way taken (spelled way taken) name k.depth ≡ u.path
    front_is name u named found deep = go (position (is_of name) taken) refl
      where
        go : (o : Option ℕ) → position (is_of name) taken ≡ o → option_map_or (λ place. get_or (spelled way taken) place []) o (take k.depth way) ≡ u.path
        go None e = ap (λ n. take n way) deep ∙ sym (so_far.others name u found e)
        go (Some place) e =
            let r = found_at (is_of name) (λ (x : Taken). path_named t x.node) [] 0 taken place (sym (position_is name taken) ∙ e) in
            let there : place ≡ r.0 = omega (arith, r.2) in
            ap (λ n. get_or (spelled way taken) n []) there
            ∙ ap (λ (l : List Rows). get_or l r.0 []) so_far.spells
            ∙ r.4
            ∙ ap (path_named t) (eqb-true r.1.node name r.3)
            ∙ ap (λ (o : Option (Saved S)). option_map_or (λ x. x.path) o []) named

    spelled_is : path_in way taken (spelled way taken) k ≡ s.path
    spelled_is = go k.above (subst (λ (p : Rows). IsAbove t p k.above) path is.above)
      where
        path : path_named t (get_or names count 0) ≡ s.path
        path = path_at names count at

        below : (a : Above) (o : Option (Saved S)) → state_named t a.node ≡ o → IsSomeAnd o (λ u. s.path ≡ u.path ++ a.row ∷ []) → path_before way taken (spelled way taken) a.node k.depth ++ a.row ∷ [] ≡ s.path
        below a None e h = absurd h
        below a (Some u) e h =
            let named : u.name ≡ a.node = find_named t.states a.node u e in
            let found = ordered (take count t.states) _ s u a.row at.split (ap (state_named t) named ∙ e) h in
            let deep : k.depth ≡ length u.path = omega (arith, is.depth, ap (λ (l : Rows). length l) (path ∙ h), length-append u.path (a.row ∷ [])) in
            ap (λ (p : Rows). p ++ a.row ∷ []) (front_is a.node u e (ap (λ n. find (λ x. eqb x.name n) (take count t.states)) (sym named) ∙ found) deep) ∙ sym h

        go : (o : Option Above) → IsAbove t s.path o → option_map_or (λ (a : Above). path_before way taken (spelled way taken) a.node k.depth ++ a.row ∷ []) o [] ≡ s.path
        go None e = sym e
        go (Some a) h = below a (state_named t a.node) refl h

    -- a state off the way
    pub other_more : AreTaken (count + 1) on_way (taken ++ k ∷ [])
    other_more =
        record {
          spells = more ∙ ap (λ (l : List Rows). l ++ s.path ∷ []) so_far.spells
              ∙ ap (λ (p : Rows). map (λ (x : Taken). path_named t x.node) taken ++ p ∷ []) (sym (ap (path_named t) is.node ∙ path_at names count at))
              ∙ sym (map-append (λ (x : Taken). path_named t x.node) taken (k ∷ []));
          others = λ name u found none.
              let r = none_of_more (is_of name) 0 taken k (sym (position_is name (taken ++ k ∷ [])) ∙ none) in
              go name u r.1 (position_is name taken ∙ r.0) (found_more (take count t.states) s name u (sym (ap (find (λ x. eqb x.name name)) at.more) ∙ found));
          paths =
              subst (λ (l : List Rows). IsPermutation l (all_paths way on_way (taken ++ k ∷ []))) (sym (ap (map (λ (x : Saved S). x.path)) at.more ∙ map-append (λ (x : Saved S). x.path) (take count t.states) (s ∷ [])))
              (subst (λ (l : List Rows). IsPermutation (before ++ s.path ∷ []) (l ++ beginnings way on_way)) (sym more)
              (IsPermutation-trans (before ++ s.path ∷ []) (all_paths way on_way taken ++ s.path ∷ []) ((spelled way taken ++ s.path ∷ []) ++ beginnings way on_way) (IsPermutation-append_left (s.path ∷ []) before (all_paths way on_way taken) so_far.paths) moved));
        }
      where
        before : List Rows
        before = map (λ (x : Saved S). x.path) (take count t.states)

        more : spelled way (taken ++ k ∷ []) ≡ spelled way taken ++ s.path ∷ []
        more = spelled-push way taken k ∙ ap (λ (p : Rows). spelled way taken ++ p ∷ []) spelled_is

        moved : IsPermutation ((spelled way taken ++ beginnings way on_way) ++ s.path ∷ []) ((spelled way taken ++ s.path ∷ []) ++ beginnings way on_way)
        moved =
            subst (λ (l : List Rows). IsPermutation l ((spelled way taken ++ s.path ∷ []) ++ beginnings way on_way)) (sym (append_assoc (spelled way taken) (beginnings way on_way) (s.path ∷ [])))
            (subst (λ (l : List Rows). IsPermutation (spelled way taken ++ (beginnings way on_way ++ s.path ∷ [])) l) (sym (append_assoc (spelled way taken) (s.path ∷ []) (beginnings way on_way)))
            (IsPermutation-append_right (spelled way taken) (beginnings way on_way ++ s.path ∷ []) (s.path ∷ beginnings way on_way) (IsPermutation-to_front (beginnings way on_way) s.path)))

        go : (name : ℕ) (u : Saved S) → is_of name k ≡ false → position (is_of name) taken ≡ None → (find (λ x. eqb x.name name) (take count t.states) ≡ Some u) ⊎ ((s ≡ u) × (eqb s.name name ≡ true)) → u.path ≡ take (length u.path) way
        go name u other none (inl f) = so_far.others name u f none
        go name u other none (inr r) = absurd (false≢true (sym other ∙ ap (λ n. eqb n name) (is.node ∙ at.name_is) ∙ r.1))
