-- The tests by which a tree is pruned, and the tree afterwards.
use Rattle.std.proofs.Common.{◌≡◌, ◌≢◌, ◌⊎◌, ◌||◌, ◌&&◌, not, ℕ, ◌+◌, ◌-◌, ◌≤◌, List, [], ◌∷◌, length, map, drop, Bool, true, false, cond, Option, Some, None, refl, sym, ap, subst, ◌∙◌, inl, inr, arith, eqb, vec_capacity}
use Rattle.std.specs.Prelude.{option_map, slice_get}
use Rattle.std.specs.List.{filter}
use Rattle.std.specs.Option.{option_map_or}
use Rattle.std.proofs.Math.Seq.{drop-append_seam}
use Rattle.std.proofs.lemmas.Option.{none-some}
use Rattle.std.proofs.lemmas.Bool.{and_parts, cases_eq, false≢true, or_left, eqb-true, eq-eqb}
use Rattle.std.proofs.Math.Bool.{and-false}
use Rattle.slab.specs.Slab.{Slab, get, slab_len}
use Rattle.roll_frame.specs.declared.limits.TheConstants.{TREE_LIMIT}
use Rattle.roll_tree.specs.SavedStates.{Saved, later}
use Rattle.roll_tree.specs.Layout.{has_name, node_at, saved_of, state_at, HasParent, AreLinked, AreDistinct, AreOrdered, AreFresh, IsTree}
use Rattle.roll_tree.specs.Rule.{allows, IsLive, IsPruned}
use Rattle.roll_tree.specs.declared.node.Edge.{Edge}
use Rattle.roll_tree.specs.declared.node.Node.{Node}
use Rattle.roll_tree.specs.declared.prune.Rule.{Rule}
use Rattle.roll_tree.specs.declared.tree.Tree.TheInside.{Inside}
use Rattle.roll_tree.proofs.Names.{option_cases, has_name-filter}
use Rattle.roll_tree.proofs.Nodes.{path_at, with_edge}
use Rattle.roll_tree.proofs.Prunes.{named_node}
use Rattle.roll_tree.proofs.States.{states_at}
use Rattle.roll_tree.proofs.Cuts.{detached, IsCut, left_at, was_at, cut_links, cut_distinct, cut_fresh, cut_ordered, filter_map-live}

length-filter : (live : ℕ → Bool) (names : List ℕ) → length (filter live names) ≤ length names
length-filter live [] = omega arith
length-filter live (n ∷ names) = go (live n) (length-filter live names)
  where
    go : (b : Bool) → length (filter live names) ≤ length names → length (cond b (n ∷ filter live names) (filter live names)) ≤ length (n ∷ names)
    go true ih = omega (arith, ih)
    go false ih = omega (arith, ih)

module _ {S : Type 0} (t : Inside S) (top : ℕ) (first : Node S) (rule : Rule) (passes : Saved S → Bool) where
  abbrev state : ℕ → Node S → Saved S
  state name node = saved_of t.base t.nodes.slots name node

  -- what the test says of the states is what the rule says of the edges below the top
  pub record IsRule : Type 0 where
    pub first_is : node_at t.nodes.slots top ≡ Some first
    pub alive : passes (state top first) ≡ true
    pub lone : (name : ℕ) (node : Node S) → node_at t.nodes.slots name ≡ Some node → name ≢ top → node.edge ≡ None → passes (state name node) ≡ false
    pub step : (name : ℕ) (node : Node S) → node_at t.nodes.slots name ≡ Some node → name ≢ top → (up : HasParent t.nodes.slots node) → passes (state name node) ≡ (passes (state up.edge.parent up.parent) && allows rule node.end up.edge.row)

  -- the names of the states that pass
  abbrev pub live_by : ℕ → Bool
  live_by name = option_map_or passes (state_at t.base t.nodes.slots name) false

  live_is : (name : ℕ) (node : Node S) → node_at t.nodes.slots name ≡ Some node → live_by name ≡ passes (state name node)
  live_is name node found = ap (λ (o : Option (Node S)). option_map_or passes (option_map (saved_of t.base t.nodes.slots name) o) false) found

  module _ (mid : Slab (Node S)) (tree : IsTree t) (is : IsRule) (at_top : get mid top ≡ Some (detached first)) (others : (name : ℕ) → name ≢ top → get mid name ≡ node_at t.nodes.slots name) where
    pub is_live : IsLive top rule mid.slots live_by
    unfolding live_is
    is_live = record { step = λ name node found. go name node found (cases_eq name top) }
      where
        go : (name : ℕ) (node : Node S) → node_at mid.slots name ≡ Some node → (name ≡ top) ⊎ (name ≡ top → ⊥) → live_by name ≡ (eqb name top || option_map_or (λ (e : Edge). live_by e.parent && allows rule node.end e.row) node.edge false)
        go name node found (inl same) =
            ap live_by same ∙ live_is top first is.first_is ∙ is.alive
            ∙ sym (or_left (eqb name top) (option_map_or (λ (e : Edge). live_by e.parent && allows rule node.end e.row) node.edge false) (eq-eqb name top same))
        go name node found (inr differs) =
            let here : node_at t.nodes.slots name ≡ Some node = sym (others name differs) ∙ found in
            let unlike : eqb name top ≡ false = unequal (eqb name top) refl in
            live_is name node here ∙ edge node.edge refl here ∙ sym (ap (λ (b : Bool). b || option_map_or (λ (e : Edge). live_by e.parent && allows rule node.end e.row) node.edge false) unlike)
          where
            unequal : (b : Bool) → eqb name top ≡ b → eqb name top ≡ false
            unequal true e = absurd (differs (eqb-true name top e))
            unequal false e = e

            edge : (o : Option Edge) → node.edge ≡ o → node_at t.nodes.slots name ≡ Some node → passes (state name node) ≡ option_map_or (λ (e : Edge). live_by e.parent && allows rule node.end e.row) node.edge false
            edge None none here = is.lone name node here differs none ∙ sym (ap (λ (o : Option Edge). option_map_or (λ (e : Edge). live_by e.parent && allows rule node.end e.row) o false) none)
            edge (Some e) edge_is here =
                let up = with_edge t.base t.nodes.slots tree.links name node e here edge_is in
                is.step name node here differs up.0
                ∙ ap (λ (b : Bool). b && allows rule node.end up.0.edge.row) (sym (live_is up.0.edge.parent up.0.parent up.0.parent_is))
                ∙ sym (ap (λ (o : Option Edge). option_map_or (λ (e : Edge). live_by e.parent && allows rule node.end e.row) o false) up.0.edge_is)

    module _ (new : Slab (Node S)) (kept : List ℕ) (pruned : IsPruned live_by mid new t.order.items kept) where
      pub is_cut : IsCut t.base top first live_by t.nodes.slots new.slots
      unfolding live_is
      is_cut = record {
        links = tree.links;
        first_is = is.first_is;
        alive = live_is top first is.first_is ∙ is.alive;
        at_top = stays top (live_is top first is.first_is ∙ is.alive) ∙ at_top;
        same = λ name differs alive. stays name alive ∙ others name differs;
        gone = λ name dead. pruned.nodes name ∙ gone name dead (has_name t.order.items name) refl;
        above = λ name node found differs alive. above name node found differs alive node.edge refl;
      }
        where
          stays : (name : ℕ) → live_by name ≡ true → get new name ≡ get mid name
          stays name alive = pruned.nodes name ∙ ap (λ (b : Bool). cond (has_name t.order.items name && not b) None (get mid name)) alive ∙ ap (λ (b : Bool). cond b None (get mid name)) (and-false (has_name t.order.items name))

          gone : (name : ℕ) → live_by name ≡ false → (b : Bool) → has_name t.order.items name ≡ b → cond (has_name t.order.items name && not (live_by name)) None (get mid name) ≡ None
          gone name dead true named = rw (named, dead) refl
          gone name dead false unnamed = rw unnamed (vacant (option_cases (node_at t.nodes.slots name)) (cases_eq name top))
            where
              vacant : (node_at t.nodes.slots name ≡ None) ⊎ ((node : Node S) × (node_at t.nodes.slots name ≡ Some node)) → (name ≡ top) ⊎ (name ≡ top → ⊥) → get mid name ≡ None
              vacant (inr some) c = absurd (false≢true (sym unnamed ∙ tree.listed name some.0 some.1))
              vacant (inl none) (inl same) = absurd (none-some first (sym none ∙ ap (node_at t.nodes.slots) same ∙ is.first_is))
              vacant (inl none) (inr differs) = others name differs ∙ none

          above : (name : ℕ) (node : Node S) → node_at t.nodes.slots name ≡ Some node → name ≢ top → live_by name ≡ true → (o : Option Edge) → node.edge ≡ o → (up : HasParent t.nodes.slots node) × (live_by up.edge.parent ≡ true)
          above name node found differs alive None none = absurd (false≢true (sym (is.lone name node found differs none) ∙ sym (live_is name node found) ∙ alive))
          above name node found differs alive (Some e) edge_is =
              let up = with_edge t.base t.nodes.slots tree.links name node e found edge_is in
              (up.0, live_is up.0.edge.parent up.0.parent up.0.parent_is ∙ (and_parts (passes (state up.0.edge.parent up.0.parent)) (allows rule node.end up.0.edge.row) (sym (is.step name node found differs up.0) ∙ sym (live_is name node found) ∙ alive)).0)

      -- the states that are left, as they are seen from the top
      pub left_states : states_at first.end new.slots kept ≡ map (later (length (path_at t.base t.nodes.slots first))) (filter passes (states_at t.base t.nodes.slots t.order.items))
      unfolding live_is
      left_states =
          ap (states_at first.end new.slots) pruned.kept_is
          ∙ filter_map-live live_by (state_at t.base t.nodes.slots) (state_at first.end new.slots) passes (later (length (path_at t.base t.nodes.slots first))) t.order.items each
        where
          each : (name : ℕ) → has_name t.order.items name ≡ true → (s : Saved S) × (state_at t.base t.nodes.slots name ≡ Some s) × (live_by name ≡ passes s) × (live_by name ≡ true → state_at first.end new.slots name ≡ Some (later (length (path_at t.base t.nodes.slots first)) s))
          each name named =
              let node = named_node t.nodes.slots [] t.order.items tree.ordered name named in (
                state name node.0,
                ap (option_map (saved_of t.base t.nodes.slots name)) node.1,
                live_is name node.0 node.1,
                λ alive.
                    let left = left_at t.base top first live_by t.nodes.slots new.slots is_cut name node.0 node.1 alive in
                    let path : path_at first.end new.slots left.now ≡ drop (length (path_at t.base t.nodes.slots first)) (path_at t.base t.nodes.slots node.0) =
                    sym (ap (drop (length (path_at t.base t.nodes.slots first))) left.path_is ∙ drop-append_seam (path_at t.base t.nodes.slots first) (path_at first.end new.slots left.now)) in
                    ap (option_map (saved_of first.end new.slots name)) left.now_is ∙ ap Some (λ i. record { name = name; path = path i; snapshot = left.snapshot_is i }),
              )

      pub left_tree : (u : Inside S) → u.base ≡ first.end → u.root ≡ top → u.nodes ≡ new → u.order.items ≡ kept → ((k : ℕ) → slice_get u.time.items k ≡ slice_get t.time.items (first.end - t.base + k)) → slab_len mid ≡ slab_len t.nodes → TREE_LIMIT ≤ new.capacity → TREE_LIMIT ≤ vec_capacity u.order → u.tip ≡ t.tip → IsTree u
      left_tree u base root nodes order time len room space tip =
          let slots : u.nodes.slots ≡ new.slots = ap (λ (s : Slab (Node S)). s.slots) nodes in
          let counted : length u.order.items ≡ slab_len u.nodes = omega (arith, ap (λ (l : List ℕ). length l) order, ap (λ (s : Slab (Node S)). slab_len s) nodes, pruned.counted, tree.counted, len) in
          let few : length u.order.items ≤ length t.order.items = omega (arith, ap (λ (l : List ℕ). length l) (order ∙ pruned.kept_is), length-filter live_by t.order.items) in
          record {
            links = subst (λ (b : ℕ). AreLinked b u.nodes.slots) (sym base) (subst (AreLinked first.end) (sym slots) (cut_links t.base top first live_by t.nodes.slots new.slots is_cut));
            distinct = subst (λ (b : ℕ). AreDistinct b u.nodes.slots) (sym base) (subst (AreDistinct first.end) (sym slots) (cut_distinct t.base top first live_by t.nodes.slots new.slots is_cut tree.distinct));
            fresh = subst (λ (b : ℕ). AreFresh b u.time.items u.nodes.slots) (sym base) (subst (AreFresh first.end u.time.items) (sym slots) (cut_fresh t.base top first live_by t.nodes.slots new.slots is_cut t.time.items u.time.items tree.fresh time));
            rooted =
                ap (λ (r : ℕ). option_map (λ (n : Node S). n.end) (node_at u.nodes.slots r)) root
                ∙ ap (λ (l : List (Option (Node S))). option_map (λ (n : Node S). n.end) (node_at l top)) slots
                ∙ ap (option_map (λ (n : Node S). n.end)) is_cut.at_top ∙ ap Some (sym base);
            listed = λ name node found.
                let was = was_at t.base top first live_by t.nodes.slots new.slots is_cut name node (sym (ap (λ (l : List (Option (Node S))). node_at l name) slots) ∙ found) in
                ap (λ (l : List ℕ). has_name l name) (order ∙ pruned.kept_is)
                ∙ has_name-filter live_by t.order.items name
                ∙ ap (λ (b : Bool). b && live_by name) (tree.listed name was.0 was.1) ∙ was.2;
            ordered = subst (AreOrdered u.nodes.slots []) (sym (order ∙ pruned.kept_is)) (subst (λ (l : List (Option (Node S))). AreOrdered l [] (filter live_by t.order.items)) (sym slots) (cut_ordered t.base top first live_by t.nodes.slots new.slots is_cut [] t.order.items tree.ordered));
            counted = counted;
            few = omega (arith, counted, few, tree.counted, tree.few);
            room = omega (arith, room, ap (λ (s : Slab (Node S)). s.capacity) nodes);
            space = space;
            tall = λ name node found.
                let was = was_at t.base top first live_by t.nodes.slots new.slots is_cut name node (sym (ap (λ (l : List (Option (Node S))). node_at l name) slots) ∙ found) in
                omega (arith, tree.tall name was.0 was.1, was.3, tip);
          }
