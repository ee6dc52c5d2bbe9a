-- A tree that gains a node.
use Rattle.std.proofs.Common.{◌≡◌, ◌≢◌, ◌⊎◌, ℕ, ◌+◌, ◌-◌, ◌<◌, ◌≤◌, ◌^◌, List, [], ◌∷◌, ◌++◌, length, Bool, true, false, Option, Some, None, refl, sym, ap, subst, ◌∙◌, inl, inr, arith, length-append, append-nil, append_assoc, vec_capacity, eqb}
use Rattle.std.specs.Prelude.{option_map, slice_get}
use Rattle.std.proofs.lemmas.List.Elements.{filter_map-append}
use Rattle.std.proofs.lemmas.Option.{none-some, same_Some}
use Rattle.std.proofs.lemmas.Bool.{cases_eq, false≢true, or_left, eq-eqb}
use Rattle.slab.specs.Slab.{slab_len}
use Rattle.roll_frame.specs.declared.row.Cell.{Cell}
use Rattle.roll_frame.specs.declared.limits.TheConstants.{PATH_LIMIT, TREE_LIMIT}
use Rattle.roll_frame.specs.Cells.{Rows}
use Rattle.roll_frame.specs.Paths.{contains}
use Rattle.roll_tree.specs.SavedStates.{Saved, SavedStates, state_named, with_state, CanGrow}
use Rattle.roll_tree.specs.Layout.{has_name, node_at, saved_of, state_at, kept_of, HasParent, AreLinked, AreDistinct, IsAfter, AreOrdered, AreFresh, IsTree}
use Rattle.roll_tree.specs.Marks.{AreMarks}
use Rattle.roll_tree.specs.declared.node.Edge.{Edge}
use Rattle.roll_tree.specs.declared.node.Node.{Node}
use Rattle.roll_tree.specs.declared.tree.Tree.TheInside.{Inside}
use Rattle.roll_tree.proofs.Names.{option_cases, has_name-front, has_itself, filter_map-same}
use Rattle.roll_tree.proofs.Nodes.{IsWithin, parent_within, path_at, path_at-within, path_at-below, length-path_at}
use Rattle.roll_tree.proofs.Prunes.{named_node}
use Rattle.roll_tree.proofs.States.{states_at, contains_at, held_node, paths_are, base_is, paths_at}

module _ {S : Type 0} where
  -- the node is new under this name, below this parent, and all else stays
  pub record IsGrown (base : ℕ) (old new : List (Option (Node S))) (name : ℕ) (child parent : Node S) (edge : Edge) : Type 0 where
    pub vacant : node_at old name ≡ None
    pub edge_is : child.edge ≡ Some edge
    pub above : node_at old edge.parent ≡ Some parent
    pub next : parent.end + 1 ≡ child.end
    pub short : child.end ≤ base + PATH_LIMIT
    pub changed : node_at new name ≡ Some child
    pub others : (other : ℕ) → other ≢ name → node_at new other ≡ node_at old other

  module _ (base : ℕ) (old new : List (Option (Node S))) (name : ℕ) (child parent : Node S) (edge : Edge) (links : AreLinked base old) (grown : IsGrown base old new name child parent edge) where
    pub grown_within : IsWithin old new
    grown_within = record {
      kept = λ k node found.
          elim (cases_eq k name) [
            | inl same ↦ absurd (none-some node (sym grown.vacant ∙ ap (node_at old) (sym same) ∙ found))
            | inr differs ↦ grown.others k differs ∙ found
          ];
    }

    -- a node afterwards is the new one, or was there
    grown_cases : (k : ℕ) (node : Node S) → node_at new k ≡ Some node → ((k ≡ name) × (child ≡ node)) ⊎ (node_at old k ≡ Some node)
    grown_cases k node found =
        elim (cases_eq k name) [
          | inl same ↦ inl (same, same_Some _ _ (sym grown.changed ∙ ap (node_at new) (sym same) ∙ found))
          | inr differs ↦ inr (sym (grown.others k differs) ∙ found)
        ]

    -- the new node hangs below the parent
    child_parent : HasParent new child
    child_parent = record { edge = edge; edge_is = grown.edge_is; parent = parent; parent_is = grown_within.kept edge.parent parent grown.above; next = grown.next }

    pub grown_links : AreLinked base new
    grown_links =
        let deep = links.low edge.parent parent grown.above in
        record {
          low = λ k node found. elim (grown_cases k node found) [
            | inl here ↦ subst (λ (n : Node S). base ≤ n.end) here.1 (omega (arith, grown.next, deep))
            | inr there ↦ links.low k node there
          ];
          high = λ k node found. elim (grown_cases k node found) [
            | inl here ↦ subst (λ (n : Node S). n.end ≤ base + PATH_LIMIT) here.1 grown.short
            | inr there ↦ links.high k node there
          ];
          top = λ k node found flat. elim (grown_cases k node found) [
            | inl here ↦ absurd (omega (arith, ap (λ (n : Node S). n.end) here.1, flat, grown.next, deep))
            | inr there ↦ links.top k node there flat
          ];
          linked = λ k node found below. elim (grown_cases k node found) [
            | inl here ↦ subst (λ (n : Node S). HasParent new n) here.1 child_parent
            | inr there ↦ parent_within old new node grown_within (links.linked k node there below)
          ];
        }

    -- the path of a node that was there stays
    pub stays_at : (k : ℕ) (node : Node S) → node_at old k ≡ Some node → path_at base old node ≡ path_at base new node
    stays_at k node found = path_at-within base old new links grown_within k node found

    -- the new node's path is its parent's and its own row
    pub child_path : path_at base new child ≡ path_at base old parent ++ edge.row ∷ []
    unfolding child_parent
    child_path =
        path_at-below base new grown_links child child_parent
        ∙ ap (λ (rows : Rows). rows ++ edge.row ∷ []) (sym (stays_at edge.parent parent grown.above))

    pub grown_distinct : AreDistinct base old → ((k : ℕ) (node : Node S) → node_at old k ≡ Some node → path_at base old node ≢ path_at base old parent ++ edge.row ∷ []) → AreDistinct base new
    grown_distinct distinct fresh j k m n atj atk e =
        elim (grown_cases j m atj) [
          | inl here ↦ elim (grown_cases k n atk) [
            | inl also ↦ here.0 ∙ sym also.0
            | inr there ↦ absurd (fresh k n there (stays_at k n there ∙ sym e ∙ sym (ap (path_at base new) here.1) ∙ child_path))
          ]
          | inr was ↦ elim (grown_cases k n atk) [
            | inl also ↦ absurd (fresh j m was (stays_at j m was ∙ e ∙ sym (ap (path_at base new) also.1) ∙ child_path))
            | inr there ↦ distinct j k m n was there (stays_at j m was ∙ e ∙ sym (stays_at k n there))
          ]
        ]

    pub grown_fresh : (time : Rows) → AreFresh base time old → AreMarks (slice_get time (child.end - base - 1)) edge.row edge.marks → AreFresh base time new
    grown_fresh time fresh marks k node e found is =
        elim (grown_cases k node found) [
          | inl here ↦
              let mine : edge ≡ e = same_Some _ _ (sym grown.edge_is ∙ ap (λ (n : Node S). n.edge) here.1 ∙ is) in
              subst (λ (x : Edge). AreMarks (slice_get time (node.end - base - 1)) x.row x.marks) mine
              (subst (λ (n : Node S). AreMarks (slice_get time (n.end - base - 1)) edge.row edge.marks) here.1 marks)
          | inr there ↦ fresh k node e there is
        ]

    -- the states afterwards
    pub grown_states : (names : List ℕ) → AreOrdered old [] names → states_at base new (names ++ name ∷ []) ≡ states_at base old names ++ (record { name = name; path = path_at base old parent ++ edge.row ∷ []; snapshot = child.snapshot }) ∷ []
    grown_states names ordered =
        filter_map-append (state_at base new) names (name ∷ [])
        ∙ ap (λ (l : List (Saved S)). states_at base new names ++ l) one
        ∙ ap (λ (l : List (Saved S)). l ++ (record { name = name; path = path_at base old parent ++ edge.row ∷ []; snapshot = child.snapshot }) ∷ []) (filter_map-same (state_at base new) (state_at base old) names same)
      where
        one : states_at base new (name ∷ []) ≡ (record { name = name; path = path_at base old parent ++ edge.row ∷ []; snapshot = child.snapshot }) ∷ []
        one = rw grown.changed (ap (λ (p : Rows). (record { name = name; path = p; snapshot = child.snapshot }) ∷ []) child_path)

        same : (k : ℕ) → has_name names k ≡ true → state_at base new k ≡ state_at base old k
        same k h =
            let was = named_node old [] names ordered k h in
            ap (option_map (saved_of base new k)) (grown_within.kept k was.0 was.1)
            ∙ ap (λ (p : Rows). Some (record { name = k; path = p; snapshot = was.0.snapshot })) (sym (stays_at k was.0 was.1))
            ∙ sym (ap (option_map (saved_of base old k)) was.1)

  -- names stay in order while nodes come
  pub ordered_within : (old new : List (Option (Node S))) → IsWithin old new → (above names : List ℕ) → AreOrdered old above names → AreOrdered new above names
  ordered_within old new within above [] ordered = tt
  ordered_within old new within above (n ∷ names) ordered = (
    record { once = ordered.0.once; node = ordered.0.node; node_is = within.kept n ordered.0.node ordered.0.node_is; parent = ordered.0.parent },
    ordered_within old new within (above ++ n ∷ []) names ordered.1,
  )

  -- a name that may come next does
  pub ordered_push : (slots : List (Option (Node S))) (above names : List ℕ) (name : ℕ) → AreOrdered slots above names → IsAfter slots (above ++ names) name → AreOrdered slots above (names ++ name ∷ [])
  ordered_push slots above [] name ordered next = (subst (λ (l : List ℕ). IsAfter slots l name) (append-nil above) next, tt)
  ordered_push slots above (n ∷ names) name ordered next =
      (ordered.0, ordered_push slots (above ++ n ∷ []) names name ordered.1 (subst (λ (l : List ℕ). IsAfter slots l name) (sym (append_assoc above (n ∷ []) names)) next))

  -- what a caller promises of `insert`, of the nodes
  pub record FitsBelow (t : Inside S) (parent : Node S) (row : List Cell) : Type 0 where
    pub frame : parent.end + 1 < 2 ^ 32
    pub short : parent.end + 1 ≤ t.base + PATH_LIMIT
    pub fresh : (k : ℕ) (node : Node S) → node_at t.nodes.slots k ≡ Some node → path_at t.base t.nodes.slots node ≢ path_at t.base t.nodes.slots parent ++ row ∷ []

  pub fits_below : (t : Inside S) (kept : SavedStates S) (name : ℕ) (row : List Cell) (parent : Node S) → kept_of t ≡ kept → IsTree t → CanGrow kept name row → node_at t.nodes.slots name ≡ Some parent → FitsBelow t parent row
  fits_below t kept name row parent view tree can found =
      let seen = held_node t kept name parent view tree found in
      let s : Saved S = saved_of t.base t.nodes.slots name parent in
      let many = length-path_at t.base t.nodes.slots tree.links name parent found in
      let base = base_is t kept view in
      let frames = can.frames s seen in
      let short = can.short s seen in
      record {
        frame = omega arith;
        short = omega arith;
        fresh = λ k node there same.
            false≢true (sym (can.fresh s seen)
            ∙ ap (λ (l : List Rows). contains l (s.path ++ row ∷ [])) (paths_are t kept view)
            ∙ subst (λ (p : Rows). contains (paths_at t.base t.nodes.slots t.order.items) p ≡ true) same
            (contains_at t.base t.nodes.slots t.order.items k node (tree.listed k node there) there));
      }

  -- the tree after `insert`
  pub grown_tree : (t u : Inside S) (name : ℕ) (child parent : Node S) (edge : Edge) → u.base ≡ t.base → u.root ≡ t.root → u.order.items ≡ t.order.items ++ name ∷ [] → u.time.items ≡ t.time.items → AreMarks (slice_get t.time.items (child.end - t.base - 1)) edge.row edge.marks → IsTree t → IsGrown t.base t.nodes.slots u.nodes.slots name child parent edge → FitsBelow t parent edge.row → slab_len u.nodes ≡ slab_len t.nodes + 1 → slab_len u.nodes ≤ TREE_LIMIT → TREE_LIMIT ≤ u.nodes.capacity → TREE_LIMIT ≤ vec_capacity u.order → t.tip ≤ u.tip → child.end ≤ u.tip → IsTree u
  grown_tree t u name child parent edge base root order time marks tree grown fits len few room space taller high =
      let old = t.nodes.slots in
      let new = u.nodes.slots in
      let within = grown_within t.base old new name child parent edge tree.links grown in
      record {
        links = subst (λ (b : ℕ). AreLinked b new) (sym base) (grown_links t.base old new name child parent edge tree.links grown);
        distinct = subst (λ (b : ℕ). AreDistinct b new) (sym base) (grown_distinct t.base old new name child parent edge tree.links grown tree.distinct fits.fresh);
        fresh = subst (λ (r : Rows). AreFresh u.base r new) (sym time) (subst (λ (b : ℕ). AreFresh b t.time.items new) (sym base) (grown_fresh t.base old new name child parent edge tree.links grown t.time.items tree.fresh marks));
        rooted = rooted_within within (option_cases (node_at old t.root));
        listed = λ k node found. ap (λ (l : List ℕ). has_name l k) order ∙ listed k node found (cases_eq k name);
        ordered = subst (λ (l : List ℕ). AreOrdered new [] l) (sym order) (ordered_push new [] t.order.items name (ordered_within old new within [] t.order.items tree.ordered) (record {
          once = unnamed (has_name t.order.items name) refl;
          node = child;
          node_is = grown.changed;
          parent = λ e is. ap (λ (x : Edge). has_name t.order.items x.parent) (same_Some _ _ (sym is ∙ grown.edge_is)) ∙ tree.listed edge.parent parent grown.above;
        }));
        counted = ap (λ (l : List ℕ). length l) order ∙ omega (arith, tree.counted, len, length-append t.order.items (name ∷ []));
        few = few;
        room = room;
        space = space;
        tall = λ k node found. tall k node found (cases_eq k name);
      }
    where
      tall : (k : ℕ) (node : Node S) → node_at u.nodes.slots k ≡ Some node → (k ≡ name) ⊎ (k ≡ name → ⊥) → node.end ≤ u.tip
      tall k node found (inl same) = let here : child ≡ node = same_Some _ _ (sym grown.changed ∙ ap (node_at u.nodes.slots) (sym same) ∙ found) in subst (λ (n : Node S). n.end ≤ u.tip) here high
      tall k node found (inr differs) = omega (arith, tree.tall k node (sym (grown.others k differs) ∙ found), taller)

      rooted_within : IsWithin t.nodes.slots u.nodes.slots → (node_at t.nodes.slots t.root ≡ None) ⊎ ((node : Node S) × (node_at t.nodes.slots t.root ≡ Some node)) → option_map (λ (n : Node S). n.end) (node_at u.nodes.slots u.root) ≡ Some u.base
      rooted_within within (inl none) = absurd (none-some t.base (ap (option_map (λ (n : Node S). n.end)) (sym none) ∙ tree.rooted))
      rooted_within within (inr some) =
          ap (λ (k : ℕ). option_map (λ (n : Node S). n.end) (node_at u.nodes.slots k)) root
          ∙ ap (option_map (λ (n : Node S). n.end)) (within.kept t.root some.0 some.1 ∙ sym some.1)
          ∙ tree.rooted ∙ ap Some (sym base)

      listed : (k : ℕ) (node : Node S) → node_at u.nodes.slots k ≡ Some node → (k ≡ name) ⊎ (k ≡ name → ⊥) → has_name (t.order.items ++ name ∷ []) k ≡ true
      listed k node found (inl same) = ap (has_name (t.order.items ++ name ∷ [])) same ∙ has_itself t.order.items name
      listed k node found (inr differs) = has_name-front t.order.items name k (tree.listed k node (sym (grown.others k differs) ∙ found))

      unnamed : (b : Bool) → has_name t.order.items name ≡ b → has_name t.order.items name ≡ false
      unnamed true e = let node = named_node t.nodes.slots [] t.order.items tree.ordered name e in absurd (none-some node.0 (sym grown.vacant ∙ node.1))
      unnamed false e = e

  -- what is seen after `insert`
  pub grown_view : (t u : Inside S) (kept : SavedStates S) (name : ℕ) (child parent : Node S) (edge : Edge) (s : Saved S) → u.base ≡ t.base → u.root ≡ t.root → u.order.items ≡ t.order.items ++ name ∷ [] → u.time.items ≡ t.time.items → kept_of t ≡ kept → IsTree t → IsGrown t.base t.nodes.slots u.nodes.slots name child parent edge → state_named kept edge.parent ≡ Some s → kept_of u ≡ with_state kept (record { name = name; path = s.path ++ edge.row ∷ []; snapshot = child.snapshot })
  grown_view t u kept name child parent edge s base root order time view tree grown seen =
      let above : saved_of t.base t.nodes.slots edge.parent parent ≡ s = same_Some _ _ (sym (held_node t kept edge.parent parent view tree grown.above) ∙ seen) in
      let states : states_at u.base u.nodes.slots u.order.items ≡ states_at t.base t.nodes.slots t.order.items ++ (record { name = name; path = s.path ++ edge.row ∷ []; snapshot = child.snapshot }) ∷ [] =
      ap (λ (b : ℕ). states_at b u.nodes.slots u.order.items) base
      ∙ ap (states_at t.base u.nodes.slots) order
      ∙ grown_states t.base t.nodes.slots u.nodes.slots name child parent edge tree.links grown t.order.items tree.ordered
      ∙ ap (λ (x : Saved S). states_at t.base t.nodes.slots t.order.items ++ (record { name = name; path = x.path ++ edge.row ∷ []; snapshot = child.snapshot }) ∷ []) above in
      subst (λ (k : SavedStates S). kept_of u ≡ with_state k (record { name = name; path = s.path ++ edge.row ∷ []; snapshot = child.snapshot })) view (λ i. record { base = base i; root = root i; states = states i; time = time i })

  -- a tree of a root alone
  pub new_tree : (u : Inside S) (node : Node S) → node_at u.nodes.slots u.root ≡ Some node → ((other : ℕ) → other ≢ u.root → node_at u.nodes.slots other ≡ None) → node.edge ≡ None → node.end ≡ u.base → u.order.items ≡ u.root ∷ [] → slab_len u.nodes ≡ 1 → TREE_LIMIT ≤ u.nodes.capacity → TREE_LIMIT ≤ vec_capacity u.order → u.base ≤ u.tip → IsTree u
  new_tree u node found others edge end order len room space tip = record {
    links = record {
      low = λ k other at. omega (arith, only k other at);
      high = λ k other at. omega (arith, only k other at);
      top = λ k other at flat. (only k other at).1;
      linked = λ k other at deep. absurd (omega (arith, (only k other at).0, deep));
    };
    distinct = λ j k m n atj atk e. named j m atj ∙ sym (named k n atk);
    fresh = λ k other e at is. absurd (none-some e (sym (only k other at).1 ∙ is));
    rooted = ap (option_map (λ (n : Node S). n.end)) found ∙ ap Some end;
    listed = λ k other at. ap (λ (l : List ℕ). has_name l k) (order ∙ ap (λ (r : ℕ). r ∷ []) (sym (named k other at))) ∙ or_left (eqb k k) false (eq-eqb k k refl);
    ordered = subst (AreOrdered u.nodes.slots []) (sym order) (record { once = refl; node = node; node_is = found; parent = λ e is. absurd (none-some e (sym edge ∙ is)) }, tt);
    counted = ap (λ (l : List ℕ). length l) order ∙ sym len;
    few = omega (arith, len);
    room = room;
    space = space;
    tall = λ k other at. omega (arith, (only k other at).0, tip);
  }
    where
      named : (k : ℕ) (other : Node S) → node_at u.nodes.slots k ≡ Some other → k ≡ u.root
      named k other at = go (cases_eq k u.root)
        where
          go : (k ≡ u.root) ⊎ (k ≡ u.root → ⊥) → k ≡ u.root
          go (inl same) = same
          go (inr differs) = absurd (none-some other (sym (others k differs) ∙ at))

      only : (k : ℕ) (other : Node S) → node_at u.nodes.slots k ≡ Some other → (other.end ≡ u.base) × (other.edge ≡ None)
      only k other at =
          let same : node ≡ other = same_Some _ _ (sym found ∙ ap (node_at u.nodes.slots) (sym (named k other at)) ∙ at) in
          (sym (ap (λ (n : Node S). n.end) same) ∙ end, sym (ap (λ (n : Node S). n.edge) same) ∙ edge)
