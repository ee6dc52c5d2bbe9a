-- The walk along the names of a tree that finds how far the tree goes with the timeline, by the marks.
use Rattle.std.proofs.Common.{◌≡◌, ◌⊎◌, ◌&&◌, ℕ, ◌+◌, ◌-◌, ◌<◌, ◌≤◌, List, [], length, take, get_or, Bool, true, false, Option, Some, None, refl, sym, ap, subst, ◌∙◌, arith, length-take, eqb}
use Rattle.std.specs.Prelude.{slice_get, IsSomeAnd}
use Rattle.std.specs.Cmp.{both_ways}
use Rattle.std.specs.Option.{option_map_or}
use Rattle.std.proofs.lemmas.List.{get_or-take}
use Rattle.std.proofs.lemmas.Option.{same_Some, slice_get-get_or}
use Rattle.std.proofs.lemmas.Bool.{eqb-true, eq-eqb}
use Rattle.roll_frame.specs.declared.row.Cell.{Cell}
use Rattle.roll_frame.specs.Cells.{Rows, row_eq}
use Rattle.roll_frame.specs.Impls.Equal.{row_eq-Decides}
use Rattle.roll_frame.specs.Paths.{longest}
use Rattle.roll_tree.specs.Marks.{AreMarks}
use Rattle.roll_tree.specs.SavedStates.{SavedStates, state_named, paths_of, time_to}
use Rattle.roll_tree.specs.Layout.{node_at, kept_of, IsTree}
use Rattle.roll_tree.specs.Node.{is_child_of, is_unmarked_of}
use Rattle.roll_tree.specs.declared.node.Edge.{Edge}
use Rattle.roll_tree.specs.declared.node.Node.{Node}
use Rattle.roll_tree.specs.declared.tree.Tree.TheInside.{Inside}
use Rattle.roll_tree.proofs.Bytes.{no_marks, all_right}
use Rattle.roll_tree.proofs.Nodes.{with_edge}
use Rattle.roll_tree.proofs.States.{held_node, paths_are, base_is}
use Rattle.roll_tree.proofs.Way.{IsOnWay, way_end, way_length}

-- a row has no marks where it is the timeline's
unmarked_row : (row there : List Cell) (marks : ℕ) → AreMarks (Some there) row marks → eqb marks 0 ≡ row_eq row there
unmarked_row row there marks are =
    both_ways (eqb marks 0) (row_eq row there)
    (λ none. (row_eq-Decides row there).1 (no_marks row there (subst (AreMarks (Some there) row) (eqb-true marks 0 none) are)))
    (λ same. eq-eqb marks 0 (all_right row marks (subst (λ (r : List Cell). AreMarks (Some r) row marks) (sym ((row_eq-Decides row there).0 same)) are)))

module _ {S : Type 0} (t : Inside S) (tree : IsTree t) (to : ℕ) where
  abbrev pub known : Rows
  known = take (to - t.base) t.time.items

  module _ (place best depth : ℕ) (way : IsOnWay t.base t.nodes.slots t.order.items known place best depth) where
    -- the timeline's row there
    abbrev there : List Cell
    there = get_or known depth []

    -- where the walk stands, that is whether it is the next on the timeline's way
    pub unmarked_child : (name : ℕ) (node : Node S) → node_at t.nodes.slots name ≡ Some node → depth < length known → is_unmarked_of best node ≡ is_child_of best node there
    unmarked_child name node found room = go node.edge refl
      where
        row : (e : Edge) → node.edge ≡ Some e → (b : Bool) → eqb e.parent best ≡ b → (b && eqb e.marks 0) ≡ (b && row_eq e.row there)
        row e is false other = refl
        row e is true mine =
            let up = with_edge t.base t.nodes.slots tree.links name node e found is in
            let at_best : up.0.edge.parent ≡ best = ap (λ (x : Edge). x.parent) up.1 ∙ eqb-true e.parent best mine in
            let parent : up.0.parent ≡ way.node = same_Some _ _ (sym up.0.parent_is ∙ ap (node_at t.nodes.slots) at_best ∙ way.node_is) in
            let deep = way_length t known tree place best depth way in
            let here : node.end - t.base - 1 ≡ depth = omega (arith, up.0.next, ap (λ (n : Node S). n.end) parent, deep) in
            let long = length-take (to - t.base) t.time.items in
            let within : depth < length t.time.items = omega (arith, room, long) in
            let less : depth < to - t.base = omega (arith, room, long) in
            let time : slice_get t.time.items (node.end - t.base - 1) ≡ Some there =
            ap (slice_get t.time.items) here ∙ slice_get-get_or t.time.items depth [] within ∙ ap Some (sym (get_or-take (to - t.base) t.time.items depth [] less)) in
            unmarked_row e.row there e.marks (subst (λ (o : Option (List Cell)). AreMarks o e.row e.marks) time (tree.fresh name node e found is))

        go : (o : Option Edge) → node.edge ≡ o → option_map_or (λ (e : Edge). eqb e.parent best && eqb e.marks 0) o false ≡ option_map_or (λ (e : Edge). eqb e.parent best && row_eq e.row there) o false
        go None none = refl
        go (Some e) is = row e is (eqb e.parent best) refl

    -- where it ends
    pub deepest_node : (kept : SavedStates S) → kept_of t ≡ kept → (length t.order.items ≤ place) ⊎ (length known ≤ depth) → IsSomeAnd (state_named kept best) (λ s. s.path ≡ take (longest (paths_of kept) (time_to kept to)) (time_to kept to))
    deepest_node kept view over =
        let far = way_end t.base t.nodes.slots t.order.items known place best depth way over tree.listed in
        let path : longest (paths_of kept) known ≡ depth = ap (λ (l : List Rows). longest l known) (paths_are t kept view) ∙ far in
        let time : known ≡ time_to kept to = ap (λ (k : SavedStates S). time_to k to) view in
        subst (λ (r : Rows). IsSomeAnd (state_named kept best) (λ s. s.path ≡ take (longest (paths_of kept) r) r)) time
        (rw (held_node t kept best way.node view tree way.node_is, path) way.path_is)

    pub deepest_length : (kept : SavedStates S) → kept_of t ≡ kept → (length t.order.items ≤ place) ⊎ (length known ≤ depth) → t.base + depth ≡ kept.base + longest (paths_of kept) (time_to kept to)
    deepest_length kept view over =
        let far = way_end t.base t.nodes.slots t.order.items known place best depth way over tree.listed in
        let path : longest (paths_of kept) known ≡ depth = ap (λ (l : List Rows). longest l known) (paths_are t kept view) ∙ far in
        let time : known ≡ time_to kept to = ap (λ (k : SavedStates S). time_to k to) view in
        let whole : longest (paths_of kept) (time_to kept to) ≡ depth = ap (longest (paths_of kept)) (sym time) ∙ path in
        omega (arith, whole, base_is t kept view)
