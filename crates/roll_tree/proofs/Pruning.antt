-- What `cut` and `settle` make of a tree.
use Rattle.std.proofs.Common.{◌≡◌, ◌≢◌, ◌⊎◌, ℕ, zero, suc, drop, arith, ◌+◌, ◌-◌, ◌≤◌, List, [], ◌∷◌, ◌++◌, length, map, Option, Some, None, Bool, true, false, not, refl, sym, ap, subst, ◌∙◌, inl, inr, vec_capacity}
use Rattle.std.specs.Prelude.{option_map, slice_get, IsSomeAnd, IfSome, ◌==◌, if◌then◌else◌}
use Rattle.std.specs.List.{filter}
use Rattle.std.proofs.lemmas.Option.{none-some, same_Some}
use Rattle.std.proofs.lemmas.Bool.{cases_eq}
use Rattle.slab.specs.Slab.{Slab, get, slab_len}
use Rattle.roll_frame.specs.declared.row.Cell.{Cell}
use Rattle.roll_frame.specs.declared.limits.TheConstants.{TREE_LIMIT}
use Rattle.roll_frame.specs.Cells.{Rows}
use Rattle.roll_frame.specs.Paths.{begins_with}
use Rattle.roll_tree.specs.SavedStates.{Saved, SavedStates, state_named, later, has_other}
use Rattle.roll_frame.specs.Claims.{cell_in}
use Rattle.roll_frame.specs.Cells.{cell_eq}
use Rattle.std.specs.Option.{option_map_or}
use Rattle.roll_tree.specs.Layout.{node_at, kept_of, saved_of, IsAfter, AreOrdered, IsTree}
use Rattle.roll_tree.specs.Rule.{IsLive, IsPruned}
use Rattle.roll_tree.specs.declared.node.Node.{Node}
use Rattle.roll_tree.specs.declared.prune.Rule.TheVariants.{Any, Agrees}
use Rattle.roll_tree.specs.declared.tree.Tree.TheInside.{Inside}
use Rattle.roll_tree.proofs.Names.{option_cases}
use Rattle.roll_tree.proofs.Nodes.{path_at, path_at-top, length-path_at}
use Rattle.roll_tree.proofs.States.{states_at, states-none, states-some, root_held}
use Rattle.roll_tree.proofs.Cuts.{detached}
use Rattle.roll_tree.proofs.Rules.{live_by, is_live, left_states, left_tree}
use Rattle.roll_tree.proofs.Fronts.{cut_rule, settle_rule}

slice_get-drop : (n : ℕ) (rows : Rows) (k : ℕ) → slice_get (drop n rows) k ≡ slice_get rows (n + k)
slice_get-drop zero rows k = let same : k ≡ 0 + k = omega arith in ap (slice_get rows) same
slice_get-drop (suc n) [] k = refl
slice_get-drop (suc n) (row ∷ rows) k =
    let more : suc (n + k) ≡ suc n + k = omega arith in
    slice_get-drop n rows k ∙ ap (slice_get (row ∷ rows)) more

module _ {S : Type 0} where
  -- what is left below the state of this name and path
  abbrev pub settled : SavedStates S → ℕ → Rows → SavedStates S
  settled kept name path = record { base = kept.base + length path; root = name; states = map (later (length path)) (filter (λ u. begins_with u.path path) kept.states); time = drop (length path) kept.time }

  later_none : (states : List (Saved S)) → map (later 0) states ≡ states
  later_none [] = refl
  later_none (s ∷ states) = ap (λ (l : List (Saved S)). s ∷ l) (later_none states)

  pub root_node : (t : Inside S) → IsTree t → (first : Node S) × (node_at t.nodes.slots t.root ≡ Some first) × (first.end ≡ t.base)
  root_node t tree = go (option_cases (node_at t.nodes.slots t.root))
    where
      go : (node_at t.nodes.slots t.root ≡ None) ⊎ ((node : Node S) × (node_at t.nodes.slots t.root ≡ Some node)) → (first : Node S) × (node_at t.nodes.slots t.root ≡ Some first) × (first.end ≡ t.base)
      go (inl none) = absurd (none-some t.base (ap (option_map (λ (n : Node S). n.end)) (sym none) ∙ tree.rooted))
      go (inr some) = (some.0, some.1, same_Some _ _ (ap (option_map (λ (n : Node S). n.end)) (sym some.1) ∙ tree.rooted))

  -- the root has no edge to lose
  root_stays : (t : Inside S) (tree : IsTree t) (first : Node S) → node_at t.nodes.slots t.root ≡ Some first → first.end ≡ t.base → node_at t.nodes.slots t.root ≡ Some (detached first)
  root_stays t tree first found end = found ∙ ap (λ o. Some (record first { edge = o })) (tree.links.top t.root first found end)

  module _ (t : Inside S) (tree : IsTree t) (frame player place : ℕ) (cell : Cell) (low : t.base ≤ frame) (is : player ≡ place + 1) (u : Inside S) (base : u.base ≡ t.base) (root : u.root ≡ t.root) (time : u.time.items ≡ t.time.items) (pruned : (live : ℕ → Bool) → IsLive t.root (Agrees place frame cell) t.nodes.slots live → IsPruned live t.nodes u.nodes t.order.items u.order.items) where
    abbrev passes : Saved S → Bool
    passes s = not (has_other player (frame - t.base) cell s.path)

    pub cut_tree : TREE_LIMIT ≤ u.nodes.capacity → TREE_LIMIT ≤ vec_capacity u.order → u.tip ≡ t.tip → IsTree u
    cut_tree room space tip =
        let first = root_node t tree in
        let rule = cut_rule t tree first.0 frame player place cell first.1 first.2 low is in
        let at_top = root_stays t tree first.0 first.1 first.2 in
        let live = is_live t t.root first.0 (Agrees place frame cell) passes t.nodes tree rule at_top (λ name differs. refl) in
        left_tree t t.root first.0 (Agrees place frame cell) passes t.nodes tree rule at_top (λ name differs. refl) u.nodes u.order.items (pruned (live_by t t.root first.0 (Agrees place frame cell) passes) live)
        u (base ∙ sym first.2) root refl refl
        (λ k. let same : k ≡ first.0.end - t.base + k = omega (arith, first.2) in ap (λ (r : Rows). slice_get r k) time ∙ ap (slice_get t.time.items) same)
        refl room space tip

    pub cut_view : (kept : SavedStates S) → kept_of t ≡ kept → kept_of u ≡ record kept { states = filter (λ s. not (has_other player (frame - kept.base) cell s.path)) kept.states }
    cut_view kept view =
        let first = root_node t tree in
        let rule = cut_rule t tree first.0 frame player place cell first.1 first.2 low is in
        let at_top = root_stays t tree first.0 first.1 first.2 in
        let live = is_live t t.root first.0 (Agrees place frame cell) passes t.nodes tree rule at_top (λ name differs. refl) in
        let left = left_states t t.root first.0 (Agrees place frame cell) passes t.nodes tree rule at_top (λ name differs. refl) u.nodes u.order.items (pruned (live_by t t.root first.0 (Agrees place frame cell) passes) live) in
        let none : length (path_at t.base t.nodes.slots first.0) ≡ 0 = ap (λ (l : Rows). length l) (path_at-top t.base t.nodes.slots first.0 first.2) in
        let states : states_at u.base u.nodes.slots u.order.items ≡ filter passes (states_at t.base t.nodes.slots t.order.items) =
        ap (λ (b : ℕ). states_at b u.nodes.slots u.order.items) (base ∙ sym first.2)
        ∙ left
        ∙ ap (λ (n : ℕ). map (later n) (filter passes (states_at t.base t.nodes.slots t.order.items))) none
        ∙ later_none (filter passes (states_at t.base t.nodes.slots t.order.items)) in
        subst (λ (k : SavedStates S). kept_of u ≡ record k { states = filter (λ s. not (has_other player (frame - k.base) cell s.path)) k.states }) view (λ i. record { base = base i; root = root i; states = states i; time = time i })

-- there is no player 0, so nothing differs there
cut_all : {S : Type 0} (place : ℕ) (cell : Cell) (states : List (Saved S)) → states ≡ filter (λ s. not (has_other 0 place cell s.path)) states
cut_all place cell [] = refl
cut_all place cell (s ∷ states) = ap (λ l. s ∷ l) (cut_all place cell states)

pub cut_nobody : {S : Type 0} (kept : SavedStates S) (place : ℕ) (cell : Cell) → kept ≡ record kept { states = filter (λ s. not (has_other 0 place cell s.path)) kept.states }
cut_nobody kept place cell = ap (λ l. record kept { states = l }) (cut_all place cell kept.states)

-- no row of a path that ends before it has another cell there
shorter : (player place : ℕ) (cell : Cell) (path : Rows) → length path ≤ place → has_other player place cell path ≡ false
shorter player place cell path short = go (player == 0)
  where
    beyond : (rows : Rows) (k : ℕ) → length rows ≤ k → cell_in rows k (player - 1) ≡ None
    beyond [] k h = refl
    beyond (r ∷ rows) zero h = absurd (omega (arith, h))
    beyond (r ∷ rows) (suc k) h = beyond rows k (omega (arith, h))

    go : (b : Bool) → option_map_or (λ c. not (cell_eq c cell)) (if b then None else cell_in path place (player - 1)) false ≡ false
    go true = refl
    go false = rw (beyond path place short) refl

-- where all paths end before a frame, nothing is cut there
pub cut_beyond : {S : Type 0} (t : Inside S) → IsTree t → (frame player : ℕ) (cell : Cell) (kept : SavedStates S) → kept_of t ≡ kept → t.tip ≤ frame → kept ≡ record kept { states = filter (λ s. not (has_other player (frame - kept.base) cell s.path)) kept.states }
cut_beyond {S} t tree frame player cell kept view high = subst (λ (k : SavedStates S). k ≡ record k { states = filter (λ s. not (has_other player (frame - k.base) cell s.path)) k.states }) view (λ i. record (kept_of t) { states = all t.order.items i })
  where
    all : (names : List ℕ) → states_at t.base t.nodes.slots names ≡ filter (λ s. not (has_other player (frame - t.base) cell s.path)) (states_at t.base t.nodes.slots names)
    all [] = refl
    all (n ∷ names) = go (option_cases (node_at t.nodes.slots n)) (all names)
      where
        go : (node_at t.nodes.slots n ≡ None) ⊎ ((node : Node S) × (node_at t.nodes.slots n ≡ Some node)) → states_at t.base t.nodes.slots names ≡ filter (λ s. not (has_other player (frame - t.base) cell s.path)) (states_at t.base t.nodes.slots names)
            → states_at t.base t.nodes.slots (n ∷ names) ≡ filter (λ s. not (has_other player (frame - t.base) cell s.path)) (states_at t.base t.nodes.slots (n ∷ names))
        go (inl none) rest = rw (states-none t.base t.nodes.slots n names none) rest
        go (inr some) rest =
            let long = length-path_at t.base t.nodes.slots tree.links n some.0 some.1 in
            let none : has_other player (frame - t.base) cell (path_at t.base t.nodes.slots some.0) ≡ false = shorter player (frame - t.base) cell (path_at t.base t.nodes.slots some.0) (omega (arith, long, tree.tall n some.0 some.1, high)) in
            rw (states-some t.base t.nodes.slots n names some.0 some.1, none) (ap (λ (l : List (Saved S)). saved_of t.base t.nodes.slots n some.0 ∷ l) rest)

module _ {S : Type 0} (t : Inside S) (tree : IsTree t) (top : ℕ) (first : Node S) (first_is : node_at t.nodes.slots top ≡ Some first) (mid : Slab (Node S)) (at_top : get mid top ≡ Some (detached first)) (others : (name : ℕ) → name ≢ top → get mid name ≡ get t.nodes name) (len : slab_len mid ≡ slab_len t.nodes) (u : Inside S) (base : u.base ≡ first.end) (root : u.root ≡ top) (time : u.time.items ≡ drop (first.end - t.base) t.time.items) (pruned : (live : ℕ → Bool) → IsLive top Any mid.slots live → IsPruned live mid u.nodes t.order.items u.order.items) where
  abbrev begins_there : Saved S → Bool
  begins_there s = begins_with s.path (path_at t.base t.nodes.slots first)

  pub settle_tree : TREE_LIMIT ≤ u.nodes.capacity → TREE_LIMIT ≤ vec_capacity u.order → u.tip ≡ t.tip → IsTree u
  settle_tree room space tip =
      let rule = settle_rule t tree top first first_is in
      let live = is_live t top first Any begins_there mid tree rule at_top others in
      left_tree t top first Any begins_there mid tree rule at_top others u.nodes u.order.items (pruned (live_by t top first Any begins_there) live)
      u base root refl refl (λ k. ap (λ (r : Rows). slice_get r k) time ∙ slice_get-drop (first.end - t.base) t.time.items k) len room space tip

  pub settle_view : (kept : SavedStates S) → kept_of t ≡ kept → kept_of u ≡ settled kept top (path_at t.base t.nodes.slots first)
  settle_view kept view =
      let path : Rows = path_at t.base t.nodes.slots first in
      let rule = settle_rule t tree top first first_is in
      let live = is_live t top first Any begins_there mid tree rule at_top others in
      let left = left_states t top first Any begins_there mid tree rule at_top others u.nodes u.order.items (pruned (live_by t top first Any begins_there) live) in
      let long = length-path_at t.base t.nodes.slots tree.links top first first_is in
      let frames : u.base ≡ t.base + length path = omega (arith, base, long) in
      let deep : first.end - t.base ≡ length path = omega (arith, long) in
      let rows : u.time.items ≡ drop (length path) t.time.items = time ∙ ap (λ (n : ℕ). drop n t.time.items) deep in
      let states : states_at u.base u.nodes.slots u.order.items ≡ map (later (length path)) (filter (λ s. begins_with s.path path) (states_at t.base t.nodes.slots t.order.items)) =
      ap (λ (b : ℕ). states_at b u.nodes.slots u.order.items) base ∙ left in
      subst (λ (k : SavedStates S). kept_of u ≡ settled k top path) view (λ i. record { base = frames i; root = root i; states = states i; time = rows i })

module _ {S : Type 0} where
  filter_empty : (states : List (Saved S)) → filter (λ s. begins_with s.path []) states ≡ states
  filter_empty [] = refl
  filter_empty (s ∷ states) = ap (λ (l : List (Saved S)). s ∷ l) (filter_empty states)

  -- the root is the root already
  pub settle_root : (t : Inside S) (kept : SavedStates S) (name : ℕ) → kept_of t ≡ kept → IsTree t → name ≡ t.root → IfSome (state_named kept name) (λ s. kept ≡ settled kept name s.path)
  settle_root t kept name view tree is =
      go (state_named kept name) (subst (λ (n : ℕ). IsSomeAnd (state_named kept n) (λ (s : Saved S). s.path ≡ [])) (sym is) (root_held t kept view tree))
    where
      here : kept ≡ settled kept name []
      here =
          let base : kept.base ≡ kept.base + 0 = omega arith in
          let root : kept.root ≡ name = ap (λ (k : SavedStates S). k.root) (sym view) ∙ sym is in
          let states : kept.states ≡ map (later 0) (filter (λ s. begins_with s.path []) kept.states) = sym (later_none (filter (λ s. begins_with s.path []) kept.states) ∙ filter_empty kept.states) in
          λ i. record { base = base i; root = root i; states = states i; time = kept.time }

      go : (o : Option (Saved S)) → IsSomeAnd o (λ s. s.path ≡ []) → IfSome o (λ s. kept ≡ settled kept name s.path)
      go None h = tt
      go (Some s) h = subst (λ (p : Rows). kept ≡ settled kept name p) (sym h) here

  -- a tree that is settled at the state of a path
  pub settled_to : (kept new : SavedStates S) (name : ℕ) (to : Rows) → IsSomeAnd (state_named kept name) (λ s. s.path ≡ to) → IfSome (state_named kept name) (λ s. new ≡ settled kept name s.path) → new ≡ settled kept name to
  settled_to kept new name to = go (state_named kept name)
    where
      nowhere : IsSomeAnd None (λ (s : Saved S). s.path ≡ to) → ⊥
      nowhere h = elim h [ ]

      go : (o : Option (Saved S)) → IsSomeAnd o (λ s. s.path ≡ to) → IfSome o (λ s. new ≡ settled kept name s.path) → new ≡ settled kept name to
      go None found is = absurd (nowhere found)
      go (Some s) found is = subst (λ (p : Rows). new ≡ settled kept name p) found is

module _ {S : Type 0} (old mid : List (Option (Node S))) (top : ℕ) (first : Node S) (at_top : node_at mid top ≡ Some (detached first)) (others : (name : ℕ) → name ≢ top → node_at mid name ≡ node_at old name) where
  -- names stay in order where a node loses its edge
  pub detached_order : (above names : List ℕ) → AreOrdered old above names → AreOrdered mid above names
  detached_order above [] ordered = tt
  detached_order above (n ∷ names) ordered = (go (cases_eq n top), detached_order (above ++ n ∷ []) names ordered.1)
    where
      go : (n ≡ top) ⊎ (n ≡ top → ⊥) → IsAfter mid above n
      go (inl same) = record { once = ordered.0.once; node = detached first; node_is = ap (node_at mid) same ∙ at_top; parent = λ e is. absurd (none-some e is) }
      go (inr differs) = record { once = ordered.0.once; node = ordered.0.node; node_is = others n differs ∙ ordered.0.node_is; parent = ordered.0.parent }
