-- The least frame and player in which a path differs from the timeline.
use Rattle.std.proofs.Common.{◌≡◌, ℕ, ◌+◌, ◌-◌, ◌<◌, List, [], ◌∷◌, ◌++◌, length, Option, Some, None, refl, sym, ap, ◌∙◌, arith}
use Rattle.std.specs.Prelude.{slice_get}
use Rattle.std.specs.Option.{option_map_or, option_and_then, option_or}
use Rattle.roll_frame.specs.declared.row.Cell.{Cell}
use Rattle.roll_frame.specs.Cells.{Rows}
use Rattle.roll_frame.specs.Claims.{place_of, least_place}
use Rattle.roll_frame.proofs.Places.{in_frame, least_place-push}
use Rattle.roll_tree.specs.Marks.{AreMarks}
use Rattle.roll_tree.specs.Layout.{node_at, IsTree}
use Rattle.roll_tree.specs.declared.node.Edge.{Edge}
use Rattle.roll_tree.specs.declared.node.Node.{Node}
use Rattle.roll_tree.specs.declared.tree.Tree.TheInside.{Inside}
use Rattle.roll_tree.proofs.Nodes.{path_at, path_at-top, path_at-below, length-path_at, no_edge, with_edge}

or_assoc : {A : Type 0} (a b c : Option A) → option_or (option_or a b) c ≡ option_or a (option_or b c)
or_assoc None b c = refl
or_assoc (Some x) b c = refl

or_none : {A : Type 0} (a : Option A) → a ≡ option_or a None
or_none None = refl
or_none (Some x) = refl

module _ {S : Type 0} (t : Inside S) where
  -- how far a node is below the root
  abbrev pub height : ℕ → ℕ
  height name = option_map_or (λ (n : Node S). n.end) (node_at t.nodes.slots name) 0 - t.base

  -- the walk up from a node stands below what it has seen, whose least is this
  pub record IsSearch (start at : ℕ) (first : Option (ℕ × ℕ)) : Type 0 where
    pub from : Node S
    pub here : Node S
    pub from_is : node_at t.nodes.slots start ≡ Some from
    pub here_is : node_at t.nodes.slots at ≡ Some here
    pub joined : least_place t.base (path_at t.base t.nodes.slots from) t.time.items ≡ option_or (least_place t.base (path_at t.base t.nodes.slots here) t.time.items) first

  pub IsSearch-start : (start : ℕ) (node : Node S) → node_at t.nodes.slots start ≡ Some node → IsSearch start start None
  IsSearch-start start node found = record { from = node; here = node; from_is = found; here_is = found; joined = or_none (least_place t.base (path_at t.base t.nodes.slots node) t.time.items) }

  module _ (tree : IsTree t) where
    -- a row further up
    pub IsSearch-more : (start at : ℕ) (first : Option (ℕ × ℕ)) (e : Edge) (player : Option ℕ) → (s : IsSearch start at first) → s.here.edge ≡ Some e → ((there : Option (List Cell)) (row : List Cell) → AreMarks there row e.marks → player ≡ option_and_then (place_of row) there) → IsSearch start e.parent (option_or (in_frame (s.here.end - 1) player) first)
    IsSearch-more start at first e player s is least =
        let slots = t.nodes.slots in
        let up = with_edge t.base slots tree.links at s.here e s.here_is is in
        let above : Rows = path_at t.base slots up.0.parent in
        let deep = length-path_at t.base slots tree.links up.0.edge.parent up.0.parent up.0.parent_is in
        let place : s.here.end - t.base - 1 ≡ length above = omega (arith, deep, up.0.next) in
        let frame : t.base + length above ≡ s.here.end - 1 = omega (arith, deep, up.0.next) in
        let mine : player ≡ option_and_then (place_of e.row) (slice_get t.time.items (length above)) =
        least (slice_get t.time.items (s.here.end - t.base - 1)) e.row (tree.fresh at s.here e s.here_is is)
        ∙ ap (λ (n : ℕ). option_and_then (place_of e.row) (slice_get t.time.items n)) place in
        record {
          from = s.from;
          here = up.0.parent;
          from_is = s.from_is;
          here_is = ap (λ (x : Edge). node_at slots x.parent) (sym up.1) ∙ up.0.parent_is;
          joined =
              s.joined
              ∙ ap (λ (r : Rows). option_or (least_place t.base r t.time.items) first) (path_at-below t.base slots tree.links s.here up.0)
              ∙ ap (λ (x : Edge). option_or (least_place t.base (above ++ x.row ∷ []) t.time.items) first) up.1
              ∙ ap (λ (o : Option (ℕ × ℕ)). option_or o first) (least_place-push t.base above e.row t.time.items)
              ∙ or_assoc (least_place t.base above t.time.items) (in_frame (t.base + length above) (option_and_then (place_of e.row) (slice_get t.time.items (length above)))) first
              ∙ ap (λ (n : ℕ). option_or (least_place t.base above t.time.items) (option_or (in_frame n (option_and_then (place_of e.row) (slice_get t.time.items (length above)))) first)) frame
              ∙ ap (λ (p : Option ℕ). option_or (least_place t.base above t.time.items) (option_or (in_frame (s.here.end - 1) p) first)) (sym mine);
        }

    -- the walk comes nearer to the root
    pub climbs : (at : ℕ) (here : Node S) (e : Edge) → node_at t.nodes.slots at ≡ Some here → here.edge ≡ Some e → height e.parent < height at
    climbs at here e found is =
        let up = with_edge t.base t.nodes.slots tree.links at here e found is in
        let low = tree.links.low up.0.edge.parent up.0.parent up.0.parent_is in
        let parent : node_at t.nodes.slots e.parent ≡ Some up.0.parent = ap (λ (x : Edge). node_at t.nodes.slots x.parent) (sym up.1) ∙ up.0.parent_is in
        rw (found, parent) (omega (arith, up.0.next, low))

    -- at the root
    pub IsSearch-done : (start at : ℕ) (first : Option (ℕ × ℕ)) → (s : IsSearch start at first) → s.here.edge ≡ None → least_place t.base (path_at t.base t.nodes.slots s.from) t.time.items ≡ first
    IsSearch-done start at first s none =
        s.joined ∙ ap (λ (r : Rows). option_or (least_place t.base r t.time.items) first) (path_at-top t.base t.nodes.slots s.here (no_edge t.base t.nodes.slots tree.links at s.here s.here_is none))
