-- The state above another, and that it comes before it.
use Rattle.std.proofs.Common.{◌≡◌, ℕ, ◌+◌, List, [], ◌∷◌, ◌++◌, length, take, Some, None, true, refl, sym, ap, ◌∙◌, arith, eqb, cond, append-nil, append_assoc, length-append}
use Rattle.std.specs.Prelude.{IfSome}
use Rattle.std.specs.List.{find}
use Rattle.std.proofs.lemmas.List.{take-append-le, take_all}
use Rattle.roll_frame.specs.declared.row.Cell.{Cell}
use Rattle.roll_frame.specs.Cells.{Rows}
use Rattle.roll_tree.specs.SavedStates.{Saved, SavedStates, state_named, IsAbove, IsOrdered}
use Rattle.roll_tree.specs.Layout.{has_name, node_at, saved_of, state_at, kept_of, AreOrdered, IsTree}
use Rattle.roll_tree.specs.declared.node.Edge.{Edge}
use Rattle.roll_tree.specs.declared.node.Node.{Node}
use Rattle.roll_tree.specs.declared.tree.Tree.TheInside.{Inside}
use Rattle.roll_tree.proofs.Nodes.{path_at, path_at-below, path_at-top, length-path_at, no_edge, with_edge}
use Rattle.roll_tree.proofs.States.{states_at, states-some, found_at, held_at, held_node, node_of_state}

-- the rows before the last
all_but_last : (p q : Rows) (a b : List Cell) → p ++ a ∷ [] ≡ q ++ b ∷ [] → p ≡ q
all_but_last p q a b e =
    let one : length p + 1 ≡ length q + 1 = sym (length-append p (a ∷ [])) ∙ ap (λ (l : Rows). length l) e ∙ length-append q (b ∷ []) in
    let same : length p ≡ length q = omega (arith, one) in
    sym (take-append-le (length p) p (a ∷ []) (omega arith) ∙ take_all (length p) p (omega arith))
    ∙ ap (take (length p)) e
    ∙ take-append-le (length p) q (b ∷ []) (omega (arith, same)) ∙ take_all (length p) q (omega (arith, same))

module _ {S : Type 0} (t : Inside S) (kept : SavedStates S) (view : kept_of t ≡ kept) (tree : IsTree t) where
  seen : (name : ℕ) (node : Node S) → node_at t.nodes.slots name ≡ Some node → state_named kept name ≡ Some (saved_of t.base t.nodes.slots name node)
  seen name node found = held_node t kept name node view tree found

  -- by its edge
  pub above_edge : (name : ℕ) (node : Node S) (e : Edge) → node_at t.nodes.slots name ≡ Some node → node.edge ≡ Some e → IfSome (state_named kept name) (λ s. IsAbove kept s.path (Some (record { node = e.parent; row = e.row })))
  above_edge name node e found is =
      let up = with_edge t.base t.nodes.slots tree.links name node e found is in
      let parent = ap (λ (x : Edge). x.parent) up.1 in
      let path : path_at t.base t.nodes.slots node ≡ path_at t.base t.nodes.slots up.0.parent ++ e.row ∷ [] =
      path_at-below t.base t.nodes.slots tree.links node up.0 ∙ ap (λ (x : Edge). path_at t.base t.nodes.slots up.0.parent ++ x.row ∷ []) up.1 in
      rw (seen name node found, seen e.parent up.0.parent (ap (node_at t.nodes.slots) (sym parent) ∙ up.0.parent_is)) path

  -- without one
  pub above_root : (name : ℕ) (node : Node S) → node_at t.nodes.slots name ≡ Some node → node.edge ≡ None → IfSome (state_named kept name) (λ s. IsAbove kept s.path None)
  above_root name node found none =
      rw (seen name node found) (path_at-top t.base t.nodes.slots node (no_edge t.base t.nodes.slots tree.links name node found none))

  -- a state of the list, and the names before its own
  record IsSplit (above names : List ℕ) (before : List (Saved S)) (s : Saved S) : Type 0 where
    front : List ℕ
    name : ℕ
    states : states_at t.base t.nodes.slots front ≡ before
    node : Node S
    node_is : node_at t.nodes.slots name ≡ Some node
    parent : (e : Edge) → node.edge ≡ Some e → has_name (above ++ front) e.parent ≡ true
    state : saved_of t.base t.nodes.slots name node ≡ s

  split : (above names : List ℕ) → AreOrdered t.nodes.slots above names → (before rest : List (Saved S)) (s : Saved S) → states_at t.base t.nodes.slots names ≡ before ++ s ∷ rest → IsSplit above names before s
  split above [] ordered [] rest s e = absurd (none e)
    where
      none : {x : Saved S} {xs : List (Saved S)} → [] ≡ x ∷ xs → ⊥
      none f = cc
  split above [] ordered (b ∷ before) rest s e = absurd (none e)
    where
      none : {x : Saved S} {xs : List (Saved S)} → [] ≡ x ∷ xs → ⊥
      none f = cc
  split above (n ∷ names) ordered [] rest s e =
      record {
        front = [];
        name = n;
        states = refl;
        node = ordered.0.node;
        node_is = ordered.0.node_is;
        parent = λ p is. ap (λ (l : List ℕ). has_name l p.parent) (append-nil above) ∙ ordered.0.parent p is;
        state = first (sym (states-some t.base t.nodes.slots n names ordered.0.node ordered.0.node_is) ∙ e);
      }
    where
      first : {x y : Saved S} {xs ys : List (Saved S)} → x ∷ xs ≡ y ∷ ys → x ≡ y
      first f = cc
  split above (n ∷ names) ordered (b ∷ before) rest s e =
      let is = sym (states-some t.base t.nodes.slots n names ordered.0.node ordered.0.node_is) ∙ e in
      let more = split (above ++ n ∷ []) names ordered.1 before rest s (tail is) in
      record {
        front = n ∷ more.front;
        name = more.name;
        states = states-some t.base t.nodes.slots n more.front ordered.0.node ordered.0.node_is ∙ (λ i. first is i ∷ more.states i);
        node = more.node;
        node_is = more.node_is;
        parent = λ p up. ap (λ (l : List ℕ). has_name l p.parent) (sym (append_assoc above (n ∷ []) more.front)) ∙ more.parent p up;
        state = more.state;
      }
    where
      first : {x y : Saved S} {xs ys : List (Saved S)} → x ∷ xs ≡ y ∷ ys → x ≡ y
      first f = cc

      tail : {x y : Saved S} {xs ys : List (Saved S)} → x ∷ xs ≡ y ∷ ys → xs ≡ ys
      tail f = cc

  -- the name of the node above is that of the state above
  parent_named : (name : ℕ) (node : Node S) (u : Saved S) (row : List Cell) → node_at t.nodes.slots name ≡ Some node → state_named kept u.name ≡ Some u → path_at t.base t.nodes.slots node ≡ u.path ++ row ∷ [] → (e : Edge) × (node.edge ≡ Some e) × (e.parent ≡ u.name)
  parent_named name node u row found at path =
      let there = node_of_state t kept u.name u view tree at in
      let up = tree.links.linked name node found (omega (arith, length-path_at t.base t.nodes.slots tree.links name node found, ap (λ (l : Rows). length l) path, length-append u.path (row ∷ []))) in
      let paths : path_at t.base t.nodes.slots up.parent ≡ u.path = all_but_last (path_at t.base t.nodes.slots up.parent) u.path up.edge.row row (sym (path_at-below t.base t.nodes.slots tree.links node up) ∙ path) in
      (up.edge, up.edge_is, tree.distinct up.edge.parent u.name up.parent there.0 up.parent_is there.1 (paths ∙ sym (ap (λ (x : Saved S). x.path) there.2)))

  pub is_ordered : IsOrdered kept
  is_ordered before rest s u row states at path =
      let w = split [] t.order.items tree.ordered before rest s (ap (λ (k : SavedStates S). k.states) view ∙ states) in
      let up = parent_named w.name w.node u row w.node_is at (ap (λ (x : Saved S). x.path) w.state ∙ path) in
      let has : has_name w.front u.name ≡ true = ap (has_name w.front) (sym up.2) ∙ w.parent up.0 up.1 in
      ap (find (λ (x : Saved S). eqb x.name u.name)) (sym w.states)
      ∙ found_at t.base t.nodes.slots w.front u.name
      ∙ ap (λ b. cond b (state_at t.base t.nodes.slots u.name) None) has
      ∙ sym (held_at t kept u.name view tree) ∙ at
