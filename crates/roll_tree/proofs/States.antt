-- The states of a tree, from its nodes.
use Rattle.std.proofs.Common.{◌≡◌, ◌⊎◌, ◌||◌, ℕ, zero, suc, get_or, ◌-◌, ◌<◌, ◌≤◌, List, [], ◌∷◌, ◌++◌, length, take, map, max, min, Bool, true, false, cond, Option, Some, None, IsSome, refl, sym, ap, subst, ◌∙◌, inl, inr, arith, eqb}
use Rattle.std.specs.Prelude.{option_map, IsSomeAnd}
use Rattle.std.specs.List.{find, filter_map}
use Rattle.std.proofs.lemmas.Bool.{false≢true, cases_Bool, cases_lt, or_cases, or_left, or_right, eqb-true, eq-eqb}
use Rattle.std.proofs.lemmas.List.{take_all}
use Rattle.std.proofs.lemmas.Option.{none-some, same_Some}
use Rattle.std.specs.Prelude.{All}
use Rattle.std.proofs.lemmas.List.Elements.{All-cons}
use Rattle.roll_frame.specs.declared.limits.TheConstants.{PATH_LIMIT}
use Rattle.roll_frame.specs.Cells.{Rows, rows_eq}
use Rattle.roll_frame.specs.Impls.Equal.{rows_eq-Decides}
use Rattle.roll_frame.specs.Paths.{begins_with, contains, longest}
use Rattle.roll_tree.specs.SavedStates.{Saved, SavedStates, state_named, paths_of, IsClosed, IsDistinct}
use Rattle.roll_tree.specs.Layout.{has_name, node_at, rows_to, saved_of, state_at, kept_of, AreLinked, AreOrdered, IsTree}
use Rattle.roll_tree.specs.declared.node.Node.{Node}
use Rattle.roll_tree.specs.declared.tree.Tree.TheInside.{Inside}
use Rattle.roll_tree.proofs.Names.{option_cases}
use Rattle.roll_tree.proofs.Nodes.{path_at, path_at-top, front_at, length-path_at}

take-min : (k : ℕ) (rows : Rows) (n : ℕ) → length rows ≡ n → take (min k n) rows ≡ take k rows
take-min k rows n e = go (cases_lt k n)
  where
    go : (k < n) ⊎ (n ≤ k) → take (min k n) rows ≡ take k rows
    go (inl less) = let least : min k n ≡ k = omega arith in ap (λ (m : ℕ). take m rows) least
    go (inr more) =
        let least : min k n ≡ n = omega arith in
        ap (λ (m : ℕ). take m rows) least ∙ take_all n rows (omega (arith, e)) ∙ sym (take_all k rows (omega (arith, e)))

either_way : {A : Type 0} (b : Bool) (o : Option A) → cond b o o ≡ o
either_way true o = refl
either_way false o = refl

module _ {S : Type 0} (base : ℕ) (slots : List (Option (Node S))) where
  abbrev pub states_at : List ℕ → List (Saved S)
  states_at names = filter_map (state_at base slots) names

  -- a name that has no node gives no state, and one that has gives its own
  pub states-none : (n : ℕ) (names : List ℕ) → node_at slots n ≡ None → states_at (n ∷ names) ≡ states_at names
  states-none n names e = rw e refl

  pub states-some : (n : ℕ) (names : List ℕ) (node : Node S) → node_at slots n ≡ Some node → states_at (n ∷ names) ≡ saved_of base slots n node ∷ states_at names
  states-some n names node e = rw e refl

  -- the state of a name
  pub found_at : (names : List ℕ) (name : ℕ) → find (λ s. eqb s.name name) (states_at names) ≡ cond (has_name names name) (state_at base slots name) None
  found_at [] name = refl
  found_at (n ∷ names) name = go (option_cases (node_at slots n)) (cases_Bool (eqb n name)) (found_at names name)
    where
      go : (node_at slots n ≡ None) ⊎ ((node : Node S) × (node_at slots n ≡ Some node)) → (eqb n name ≡ true) ⊎ (eqb n name ≡ false) → find (λ s. eqb s.name name) (states_at names) ≡ cond (has_name names name) (state_at base slots name) None → find (λ s. eqb s.name name) (states_at (n ∷ names)) ≡ cond (eqb n name || has_name names name) (state_at base slots name) None
      go (inl none) (inl same) ih =
          let nothing : state_at base slots name ≡ None = ap (state_at base slots) (sym (eqb-true n name same)) ∙ ap (option_map (saved_of base slots n)) none in
          ap (find (λ s. eqb s.name name)) (states-none n names none) ∙ ih ∙ rw (same, nothing) (either_way (has_name names name) None)
      go (inl none) (inr differs) ih = ap (find (λ s. eqb s.name name)) (states-none n names none) ∙ ih ∙ rw differs refl
      go (inr some) (inl same) ih =
          let here : state_at base slots name ≡ Some (saved_of base slots n some.0) = ap (state_at base slots) (sym (eqb-true n name same)) ∙ ap (option_map (saved_of base slots n)) some.1 in
          ap (find (λ s. eqb s.name name)) (states-some n names some.0 some.1) ∙ rw (same, here) refl
      go (inr some) (inr differs) ih = ap (find (λ s. eqb s.name name)) (states-some n names some.0 some.1) ∙ rw differs ih

  abbrev pub paths_at : List ℕ → List Rows
  paths_at names = map (λ s. s.path) (states_at names)

  -- the path of a node is one of the paths
  pub contains_at : (names : List ℕ) (name : ℕ) (node : Node S) → has_name names name ≡ true → node_at slots name ≡ Some node → contains (paths_at names) (path_at base slots node) ≡ true
  contains_at [] name node h found = absurd (false≢true h)
  contains_at (n ∷ names) name node h found = go (option_cases (node_at slots n)) (or_cases (eqb n name) (has_name names name) h) (λ there. contains_at names name node there found)
    where
      go : (node_at slots n ≡ None) ⊎ ((m : Node S) × (node_at slots n ≡ Some m)) → (eqb n name ≡ true) ⊎ (has_name names name ≡ true) → (has_name names name ≡ true → contains (paths_at names) (path_at base slots node) ≡ true) → contains (paths_at (n ∷ names)) (path_at base slots node) ≡ true
      go (inl none) (inl same) rest = absurd (none-some node (sym none ∙ ap (node_at slots) (eqb-true n name same) ∙ found))
      go (inl none) (inr there) rest = ap (λ (l : List (Saved S)). contains (map (λ s. s.path) l) (path_at base slots node)) (states-none n names none) ∙ rest there
      go (inr some) (inl same) rest =
          let mine : some.0 ≡ node = same_Some _ _ (sym some.1 ∙ ap (node_at slots) (eqb-true n name same) ∙ found) in
          ap (λ (l : List (Saved S)). contains (map (λ s. s.path) l) (path_at base slots node)) (states-some n names some.0 some.1)
          ∙ or_left (rows_eq (path_at base slots node) (path_at base slots some.0)) (contains (paths_at names) (path_at base slots node)) ((rows_eq-Decides (path_at base slots node) (path_at base slots some.0)).1 (ap (path_at base slots) (sym mine)))
      go (inr some) (inr there) rest =
          ap (λ (l : List (Saved S)). contains (map (λ s. s.path) l) (path_at base slots node)) (states-some n names some.0 some.1)
          ∙ or_right (rows_eq (path_at base slots node) (path_at base slots some.0)) (contains (paths_at names) (path_at base slots node)) (rest there)

  -- and each of the paths is a node's
  pub contains_from : (names : List ℕ) (path : Rows) → contains (paths_at names) path ≡ true → (name : ℕ) × (node : Node S) × (node_at slots name ≡ Some node) × (path_at base slots node ≡ path)
  contains_from [] path h = absurd (false≢true h)
  contains_from (n ∷ names) path h = go (option_cases (node_at slots n)) (contains_from names path)
    where
      go : (node_at slots n ≡ None) ⊎ ((m : Node S) × (node_at slots n ≡ Some m)) → (contains (paths_at names) path ≡ true → (name : ℕ) × (node : Node S) × (node_at slots name ≡ Some node) × (path_at base slots node ≡ path)) → (name : ℕ) × (node : Node S) × (node_at slots name ≡ Some node) × (path_at base slots node ≡ path)
      go (inl none) ih = ih (ap (λ (l : List (Saved S)). contains (map (λ s. s.path) l) path) (sym (states-none n names none)) ∙ h)
      go (inr some) ih = at (or_cases (rows_eq path (path_at base slots some.0)) (contains (paths_at names) path) (ap (λ (l : List (Saved S)). contains (map (λ s. s.path) l) path) (sym (states-some n names some.0 some.1)) ∙ h))
        where
          at : (rows_eq path (path_at base slots some.0) ≡ true) ⊎ (contains (paths_at names) path ≡ true) → (name : ℕ) × (node : Node S) × (node_at slots name ≡ Some node) × (path_at base slots node ≡ path)
          at (inl same) = (n, some.0, some.1, sym ((rows_eq-Decides path (path_at base slots some.0)).0 same))
          at (inr there) = ih there

  -- the longest path that the rows begin with: none is longer, and it is no longer than all that they begin with
  pub longest_at_least : (names : List ℕ) (rows : Rows) (name : ℕ) (node : Node S) → has_name names name ≡ true → node_at slots name ≡ Some node → begins_with rows (path_at base slots node) ≡ true → length (path_at base slots node) ≤ longest (paths_at names) rows
  longest_at_least [] rows name node h found begins = absurd (false≢true h)
  longest_at_least (n ∷ names) rows name node h found begins = go (option_cases (node_at slots n)) (or_cases (eqb n name) (has_name names name) h) (λ there. longest_at_least names rows name node there found begins)
    where
      go : (node_at slots n ≡ None) ⊎ ((m : Node S) × (node_at slots n ≡ Some m)) → (eqb n name ≡ true) ⊎ (has_name names name ≡ true) → (has_name names name ≡ true → length (path_at base slots node) ≤ longest (paths_at names) rows) → length (path_at base slots node) ≤ longest (paths_at (n ∷ names)) rows
      go (inl none) (inl same) rest = absurd (none-some node (sym none ∙ ap (node_at slots) (eqb-true n name same) ∙ found))
      go (inl none) (inr there) rest = subst (λ (l : List (Saved S)). length (path_at base slots node) ≤ longest (map (λ s. s.path) l) rows) (sym (states-none n names none)) (rest there)
      go (inr some) (inl same) rest =
          let mine : path_at base slots some.0 ≡ (path_at base slots node) = ap (path_at base slots) (same_Some _ _ (sym some.1 ∙ ap (node_at slots) (eqb-true n name same) ∙ found)) in
          subst (λ (l : List (Saved S)). length (path_at base slots node) ≤ longest (map (λ s. s.path) l) rows) (sym (states-some n names some.0 some.1))
          (subst (λ (p : Rows). length (path_at base slots node) ≤ cond (begins_with rows p) (max (length p) (longest (paths_at names) rows)) (longest (paths_at names) rows)) (sym mine)
          (rw begins (omega arith)))
      go (inr some) (inr there) rest =
          let least = rest there in
          subst (λ (l : List (Saved S)). length (path_at base slots node) ≤ longest (map (λ s. s.path) l) rows) (sym (states-some n names some.0 some.1))
          (at (cases_Bool (begins_with rows (path_at base slots some.0))) least)
        where
          at : (begins_with rows (path_at base slots some.0) ≡ true) ⊎ (begins_with rows (path_at base slots some.0) ≡ false) → length (path_at base slots node) ≤ longest (paths_at names) rows → length (path_at base slots node) ≤ cond (begins_with rows (path_at base slots some.0)) (max (length (path_at base slots some.0)) (longest (paths_at names) rows)) (longest (paths_at names) rows)
          at (inl e) least = rw e (omega arith)
          at (inr e) least = rw e least

  pub longest_at_most : (names : List ℕ) (rows : Rows) (most : ℕ) → ((name : ℕ) (node : Node S) → has_name names name ≡ true → node_at slots name ≡ Some node → begins_with rows (path_at base slots node) ≡ true → length (path_at base slots node) ≤ most) → longest (paths_at names) rows ≤ most
  longest_at_most [] rows most all = omega arith
  longest_at_most (n ∷ names) rows most all = go (option_cases (node_at slots n)) (longest_at_most names rows most (λ name node h. all name node (or_right (eqb n name) (has_name names name) h)))
    where
      go : (node_at slots n ≡ None) ⊎ ((m : Node S) × (node_at slots n ≡ Some m)) → longest (paths_at names) rows ≤ most → longest (paths_at (n ∷ names)) rows ≤ most
      go (inl none) ih = subst (λ (l : List (Saved S)). longest (map (λ s. s.path) l) rows ≤ most) (sym (states-none n names none)) ih
      go (inr some) ih =
          subst (λ (l : List (Saved S)). longest (map (λ s. s.path) l) rows ≤ most) (sym (states-some n names some.0 some.1)) (at (cases_Bool (begins_with rows (path_at base slots some.0))))
        where
          at : (begins_with rows (path_at base slots some.0) ≡ true) ⊎ (begins_with rows (path_at base slots some.0) ≡ false) → cond (begins_with rows (path_at base slots some.0)) (max (length (path_at base slots some.0)) (longest (paths_at names) rows)) (longest (paths_at names) rows) ≤ most
          at (inl e) =
              let here = all n some.0 (or_left (eqb n n) (has_name names n) (eq-eqb n n refl)) some.1 e in
              rw e (omega arith)
          at (inr e) = rw e ih

module _ {S : Type 0} where
  -- what is seen under a name is the node there
  pub held_at : (t : Inside S) (kept : SavedStates S) (name : ℕ) → kept_of t ≡ kept → IsTree t → state_named kept name ≡ state_at t.base t.nodes.slots name
  held_at t kept name view tree =
      subst (λ (k : SavedStates S). state_named k name ≡ state_at t.base t.nodes.slots name) view
      (found_at t.base t.nodes.slots t.order.items name ∙ go (option_cases (node_at t.nodes.slots name)))
    where
      go : (node_at t.nodes.slots name ≡ None) ⊎ ((node : Node S) × (node_at t.nodes.slots name ≡ Some node)) → cond (has_name t.order.items name) (state_at t.base t.nodes.slots name) None ≡ state_at t.base t.nodes.slots name
      go (inl none) = rw none (either_way (has_name t.order.items name) None)
      go (inr some) = rw (tree.listed name some.0 some.1) refl

  pub held_node : (t : Inside S) (kept : SavedStates S) (name : ℕ) (node : Node S) → kept_of t ≡ kept → IsTree t → node_at t.nodes.slots name ≡ Some node → state_named kept name ≡ Some (saved_of t.base t.nodes.slots name node)
  held_node t kept name node view tree found = held_at t kept name view tree ∙ ap (option_map (saved_of t.base t.nodes.slots name)) found

  node_of_some : (o : Option (Node S)) (f : Node S → Saved S) → IsSome (option_map f o) → (node : Node S) × (o ≡ Some node)
  node_of_some None f h = absurd (false≢true h)
  node_of_some (Some node) f h = (node, refl)

  -- a name that is seen has a node
  pub node_of_held : (t : Inside S) (kept : SavedStates S) (name : ℕ) → kept_of t ≡ kept → IsTree t → IsSome (state_named kept name) → (node : Node S) × (node_at t.nodes.slots name ≡ Some node)
  node_of_held t kept name view tree h = node_of_some (node_at t.nodes.slots name) (saved_of t.base t.nodes.slots name) (subst (λ (o : Option (Saved S)). IsSome o) (held_at t kept name view tree) h)

  -- and a state that is seen is the node's
  pub node_of_state : (t : Inside S) (kept : SavedStates S) (name : ℕ) (s : Saved S) → kept_of t ≡ kept → IsTree t → state_named kept name ≡ Some s → (node : Node S) × (node_at t.nodes.slots name ≡ Some node) × (saved_of t.base t.nodes.slots name node ≡ s)
  node_of_state t kept name s view tree seen =
      let there = node_of_held t kept name view tree (subst (λ (o : Option (Saved S)). IsSome o) (sym seen) refl) in
      (there.0, there.1, same_Some _ _ (sym (held_node t kept name there.0 view tree there.1) ∙ seen))

  pub paths_are : (t : Inside S) (kept : SavedStates S) → kept_of t ≡ kept → paths_of kept ≡ paths_at t.base t.nodes.slots t.order.items
  paths_are t kept view = ap (λ (k : SavedStates S). paths_of k) (sym view)

  pub base_is : (t : Inside S) (kept : SavedStates S) → kept_of t ≡ kept → t.base ≡ kept.base
  base_is t kept view = ap (λ (k : SavedStates S). k.base) view

  -- what holds of every tree
  pub is_closed : (t : Inside S) (kept : SavedStates S) → kept_of t ≡ kept → IsTree t → IsClosed kept
  is_closed t kept view tree name s k seen = go (node_of_state t kept name s view tree seen)
    where
      go : (node : Node S) × (node_at t.nodes.slots name ≡ Some node) × (saved_of t.base t.nodes.slots name node ≡ s) → contains (paths_of kept) (take k s.path) ≡ true
      go there =
          let low = tree.links.low name there.0 there.1 in
          let many = length-path_at t.base t.nodes.slots tree.links name there.0 there.1 in
          let depth : ℕ = min k (there.0.end - t.base) in
          let front = front_at t.base t.nodes.slots tree.links (there.0.end - t.base) name there.0 there.1 (omega arith) depth (omega arith) in
          let flat : front.1.end - t.base ≡ depth = omega (arith, front.3) in
          let path : path_at t.base t.nodes.slots front.1 ≡ take k s.path =
          ap (λ (d : ℕ). rows_to t.nodes.slots d front.1) flat ∙ front.4
          ∙ take-min k (path_at t.base t.nodes.slots there.0) (there.0.end - t.base) (omega arith)
          ∙ ap (λ (x : Saved S). take k x.path) there.2 in
          ap (λ (l : List Rows). contains l (take k s.path)) (paths_are t kept view)
          ∙ subst (λ (p : Rows). contains (paths_at t.base t.nodes.slots t.order.items) p ≡ true) path
          (contains_at t.base t.nodes.slots t.order.items front.0 front.1 (tree.listed front.0 front.1 front.2) front.2)

  pub is_distinct : (t : Inside S) (kept : SavedStates S) → kept_of t ≡ kept → IsTree t → IsDistinct kept
  is_distinct t kept view tree j k s u atj atk e =
      let m = node_of_state t kept j s view tree atj in
      let n = node_of_state t kept k u view tree atk in
      tree.distinct j k m.0 n.0 m.1 n.1 (ap (λ (x : Saved S). x.path) m.2 ∙ e ∙ sym (ap (λ (x : Saved S). x.path) n.2))

  states_length : (base : ℕ) (slots : List (Option (Node S))) (above names : List ℕ) → AreOrdered slots above names → length (states_at base slots names) ≡ length names
  states_length base slots above [] ordered = refl
  states_length base slots above (n ∷ names) ordered =
      let more = states_length base slots (above ++ n ∷ []) names ordered.1 in
      ap (λ (l : List (Saved S)). length l) (states-some base slots n names ordered.0.node ordered.0.node_is) ∙ omega (arith, more)

  -- as many states are seen as there are names
  pub length-states : (t : Inside S) (kept : SavedStates S) → kept_of t ≡ kept → IsTree t → length kept.states ≡ length t.order.items
  length-states t kept view tree =
      ap (λ (k : SavedStates S). length k.states) (sym view) ∙ states_length t.base t.nodes.slots [] t.order.items tree.ordered

  -- the names of the states are those in the order
  pub names_are : (base : ℕ) (slots : List (Option (Node S))) (above names : List ℕ) → AreOrdered slots above names → map (λ (s : Saved S). s.name) (filter_map (state_at base slots) names) ≡ names
  names_are base slots above [] ordered = refl
  names_are base slots above (n ∷ names) ordered =
      ap (map (λ (s : Saved S). s.name)) (states-some base slots n names ordered.0.node ordered.0.node_is)
      ∙ ap (λ (l : List ℕ). n ∷ l) (names_are base slots (above ++ n ∷ []) names ordered.1)

  -- the root's path has no rows
  pub root_held : (t : Inside S) (kept : SavedStates S) → kept_of t ≡ kept → IsTree t → IsSomeAnd (state_named kept t.root) (λ s. s.path ≡ [])
  root_held t kept view tree = go (option_cases (node_at t.nodes.slots t.root))
    where
      go : (node_at t.nodes.slots t.root ≡ None) ⊎ ((node : Node S) × (node_at t.nodes.slots t.root ≡ Some node)) → IsSomeAnd (state_named kept t.root) (λ s. s.path ≡ [])
      go (inl none) = absurd (none-some t.base (ap (option_map (λ (n : Node S). n.end)) (sym none) ∙ tree.rooted))
      go (inr some) =
          let end : some.0.end ≡ t.base = same_Some _ _ (ap (option_map (λ (n : Node S). n.end)) (sym some.1) ∙ tree.rooted) in
          rw (held_node t kept t.root some.0 view tree some.1) (path_at-top t.base t.nodes.slots some.0 end)

  short_at : (base : ℕ) (slots : List (Option (Node S))) (names : List ℕ) → AreLinked base slots → All (λ (s : Saved S). length s.path ≤ PATH_LIMIT) (states_at base slots names)
  short_at base slots [] links = λ k d within. absurd (omega arith)
  short_at base slots (n ∷ names) links = go (option_cases (node_at slots n)) (short_at base slots names links)
    where
      go : (node_at slots n ≡ None) ⊎ ((node : Node S) × (node_at slots n ≡ Some node)) → All (λ (s : Saved S). length s.path ≤ PATH_LIMIT) (states_at base slots names) → All (λ (s : Saved S). length s.path ≤ PATH_LIMIT) (states_at base slots (n ∷ names))
      go (inl none) ih = subst (All (λ (s : Saved S). length s.path ≤ PATH_LIMIT)) (sym (states-none base slots n names none)) ih
      go (inr some) ih =
          subst (All (λ (s : Saved S). length s.path ≤ PATH_LIMIT)) (sym (states-some base slots n names some.0 some.1))
          (All-cons (λ (s : Saved S). length s.path ≤ PATH_LIMIT) (saved_of base slots n some.0) (states_at base slots names)
          (omega (arith, length-path_at base slots links n some.0 some.1, links.high n some.0 some.1)) ih)

  pub are_short : (t : Inside S) (kept : SavedStates S) → kept_of t ≡ kept → IsTree t → All (λ (s : Saved S). length s.path ≤ PATH_LIMIT) kept.states
  are_short t kept view tree = subst (λ (k : SavedStates S). All (λ (s : Saved S). length s.path ≤ PATH_LIMIT) k.states) view (short_at t.base t.nodes.slots t.order.items tree.links)

  -- the path at a place is that of the node of the name there
  pub path_in : (base : ℕ) (slots : List (Option (Node S))) (above names : List ℕ) → AreOrdered slots above names → (i : ℕ) (node : Node S) → i < length names → node_at slots (get_or names i 0) ≡ Some node → get_or (paths_at base slots names) i [] ≡ path_at base slots node
  path_in base slots above [] ordered i node within found = absurd (omega arith)
  path_in base slots above (n ∷ names) ordered zero node within found =
      ap (λ (l : List (Saved S)). get_or (map (λ s. s.path) l) 0 []) (states-some base slots n names node found)
  path_in base slots above (n ∷ names) ordered (suc i) node within found =
      ap (λ (l : List (Saved S)). get_or (map (λ s. s.path) l) (suc i) []) (states-some base slots n names ordered.0.node ordered.0.node_is)
      ∙ path_in base slots (above ++ n ∷ []) names ordered.1 i node (omega (arith, within)) found

  -- a name that has a node is seen
  pub held_of_node : (t : Inside S) (kept : SavedStates S) (name : ℕ) → kept_of t ≡ kept → IsTree t → IsSome (node_at t.nodes.slots name) → IsSome (state_named kept name)
  held_of_node t kept name view tree h = go (node_at t.nodes.slots name) refl h
    where
      go : (o : Option (Node S)) → node_at t.nodes.slots name ≡ o → IsSome o → IsSome (state_named kept name)
      go None e k = absurd (false≢true k)
      go (Some node) e k = rw (held_node t kept name node view tree e) refl

  named_at : (t : Inside S) (kept : SavedStates S) → kept_of t ≡ kept → IsTree t → (names : List ℕ) → All (λ (s : Saved S). state_named kept s.name ≡ Some s) (states_at t.base t.nodes.slots names)
  named_at t kept view tree [] = λ k d within. absurd (omega arith)
  named_at t kept view tree (n ∷ names) = go (option_cases (node_at t.nodes.slots n)) (named_at t kept view tree names)
    where
      go : (node_at t.nodes.slots n ≡ None) ⊎ ((node : Node S) × (node_at t.nodes.slots n ≡ Some node)) → All (λ (s : Saved S). state_named kept s.name ≡ Some s) (states_at t.base t.nodes.slots names) → All (λ (s : Saved S). state_named kept s.name ≡ Some s) (states_at t.base t.nodes.slots (n ∷ names))
      go (inl none) ih = subst (All (λ (s : Saved S). state_named kept s.name ≡ Some s)) (sym (states-none t.base t.nodes.slots n names none)) ih
      go (inr some) ih =
          subst (All (λ (s : Saved S). state_named kept s.name ≡ Some s)) (sym (states-some t.base t.nodes.slots n names some.0 some.1))
          (All-cons (λ (s : Saved S). state_named kept s.name ≡ Some s) (saved_of t.base t.nodes.slots n some.0) (states_at t.base t.nodes.slots names)
          (held_node t kept n some.0 view tree some.1) ih)

  -- each state is held under its name
  pub are_named : (t : Inside S) (kept : SavedStates S) → kept_of t ≡ kept → IsTree t → All (λ (s : Saved S). state_named kept s.name ≡ Some s) kept.states
  are_named t kept view tree = subst (All (λ (s : Saved S). state_named kept s.name ≡ Some s)) (ap (λ (k : SavedStates S). k.states) view) (named_at t kept view tree t.order.items)

  -- the root is kept
  pub is_rooted : (t : Inside S) (kept : SavedStates S) → kept_of t ≡ kept → IsTree t → contains (paths_of kept) [] ≡ true
  is_rooted t kept view tree = go (state_named kept t.root) refl (root_held t kept view tree)
    where
      go : (o : Option (Saved S)) → state_named kept t.root ≡ o → IsSomeAnd o (λ s. s.path ≡ []) → contains (paths_of kept) [] ≡ true
      go None e h = absurd h
      go (Some s) e h = subst (λ (p : Rows). contains (paths_of kept) p ≡ true) (ap (take 0) h) (is_closed t kept view tree t.root s 0 e)
