-- A tree of which only what hangs below one node is left.
use Rattle.std.proofs.Common.{◌≡◌, ◌≢◌, ◌⊎◌, ◌&&◌, ℕ, zero, suc, ◌+◌, ◌-◌, ◌≤◌, List, [], ◌∷◌, ◌++◌, map, Bool, true, false, cond, Option, Some, None, refl, sym, ap, subst, ◌∙◌, inl, inr, arith, append-nil, append_assoc, eqb}
use Rattle.std.specs.Prelude.{slice_get}
use Rattle.std.specs.List.{filter, filter_map}
use Rattle.std.proofs.lemmas.List.Elements.{filter-append}
use Rattle.std.proofs.lemmas.Option.{none-some, same_Some}
use Rattle.std.proofs.lemmas.Bool.{cases_eq, cases_Bool, or_left, or_right, eq-eqb}
use Rattle.roll_frame.specs.declared.row.Cell.{Cell}
use Rattle.roll_frame.specs.Cells.{Rows}
use Rattle.roll_tree.specs.Layout.{has_name, node_at, HasParent, AreLinked, AreDistinct, IsAfter, AreOrdered, AreFresh}
use Rattle.roll_tree.specs.Marks.{AreMarks}
use Rattle.roll_tree.specs.declared.node.Edge.{Edge}
use Rattle.roll_tree.specs.declared.node.Node.{Node}
use Rattle.roll_tree.proofs.Names.{has_name-filter}
use Rattle.roll_tree.proofs.Nodes.{path_at, path_at-top, path_at-below, path_at-under}

module _ {S : Type 0} where
  abbrev pub detached : Node S → Node S
  detached node = record node { edge = None }

  -- the nodes that live are left, and the top has lost its edge
  pub record IsCut (base top : ℕ) (first : Node S) (live : ℕ → Bool) (old new : List (Option (Node S))) : Type 0 where
    pub links : AreLinked base old
    pub first_is : node_at old top ≡ Some first
    pub alive : live top ≡ true
    pub at_top : node_at new top ≡ Some (detached first)
    pub same : (name : ℕ) → name ≢ top → live name ≡ true → node_at new name ≡ node_at old name
    pub gone : (name : ℕ) → live name ≡ false → node_at new name ≡ None
    pub above : (name : ℕ) (node : Node S) → node_at old name ≡ Some node → name ≢ top → live name ≡ true → (up : HasParent old node) × (live up.edge.parent ≡ true)

  module _ (base top : ℕ) (first : Node S) (live : ℕ → Bool) (old new : List (Option (Node S))) (cut : IsCut base top first live old new) where
    -- a node that lives, afterwards
    pub record IsLeft (name : ℕ) (node : Node S) : Type 0 where
      pub now : Node S
      pub now_is : node_at new name ≡ Some now
      pub end_is : now.end ≡ node.end
      pub snapshot_is : now.snapshot ≡ node.snapshot
      pub low : first.end ≤ node.end
      pub path_is : path_at base old node ≡ path_at base old first ++ path_at first.end new now

    top_left : (node : Node S) → node_at old top ≡ Some node → IsLeft top node
    top_left node found =
        let same : first ≡ node = same_Some _ _ (sym cut.first_is ∙ found) in
        subst (λ (n : Node S). IsLeft top n) same (record {
          now = detached first;
          now_is = cut.at_top;
          end_is = refl;
          snapshot_is = refl;
          low = omega arith;
          path_is = sym (ap (λ (r : Rows). path_at base old first ++ r) (path_at-top first.end new (detached first) refl) ∙ append-nil (path_at base old first));
        })

    -- a node below the top hangs below its parent still
    below : (node : Node S) (up : HasParent old node) → IsLeft up.edge.parent up.parent → HasParent new node
    below node up left = record { edge = up.edge; edge_is = up.edge_is; parent = left.now; parent_is = left.now_is; next = omega (arith, up.next, left.end_is) }

    inner_left : (name : ℕ) (node : Node S) → node_at old name ≡ Some node → name ≢ top → live name ≡ true → (up : HasParent old node) → IsLeft up.edge.parent up.parent → IsLeft name node
    unfolding below
    inner_left name node found differs alive up left = record {
      now = node;
      now_is = cut.same name differs alive ∙ found;
      end_is = refl;
      snapshot_is = refl;
      low = omega (arith, left.low, up.next);
      path_is =
          path_at-below base old cut.links node up
          ∙ ap (λ (r : Rows). r ++ up.edge.row ∷ []) left.path_is
          ∙ append_assoc (path_at base old first) (path_at first.end new left.now) (up.edge.row ∷ [])
          ∙ ap (λ (r : Rows). path_at base old first ++ r) (sym (path_at-under first.end new node (below node up left) (omega (arith, left.low, left.end_is))));
    }

    left_to : (depth name : ℕ) (node : Node S) → node_at old name ≡ Some node → node.end ≡ base + depth → live name ≡ true → IsLeft name node
    left_to zero name node found e alive = elim (cases_eq name top) [
      | inl same ↦ subst (λ (n : ℕ). IsLeft n node) (sym same) (top_left node (ap (node_at old) (sym same) ∙ found))
      | inr differs ↦
          let up = cut.above name node found differs alive in
          absurd (omega (arith, up.0.next, cut.links.low up.0.edge.parent up.0.parent up.0.parent_is, e))
    ]
    left_to (suc depth) name node found e alive = elim (cases_eq name top) [
      | inl same ↦ subst (λ (n : ℕ). IsLeft n node) (sym same) (top_left node (ap (node_at old) (sym same) ∙ found))
      | inr differs ↦
          let up = cut.above name node found differs alive in
          inner_left name node found differs alive up.0 (left_to depth up.0.edge.parent up.0.parent up.0.parent_is (omega (arith, up.0.next, e)) up.1)
    ]

    pub left_at : (name : ℕ) (node : Node S) → node_at old name ≡ Some node → live name ≡ true → IsLeft name node
    left_at name node found alive = left_to (node.end - base) name node found (omega (arith, cut.links.low name node found)) alive

    -- a node afterwards is the top, or was there
    left_cases : (name : ℕ) (node : Node S) → node_at new name ≡ Some node → ((name ≡ top) × (detached first ≡ node)) ⊎ ((name ≢ top) × (live name ≡ true) × (node_at old name ≡ Some node))
    left_cases name node found = go (cases_Bool (live name)) (cases_eq name top)
      where
        go : (live name ≡ true) ⊎ (live name ≡ false) → (name ≡ top) ⊎ (name ≡ top → ⊥) → ((name ≡ top) × (detached first ≡ node)) ⊎ ((name ≢ top) × (live name ≡ true) × (node_at old name ≡ Some node))
        go (inr dead) c = absurd (none-some node (sym (cut.gone name dead) ∙ found))
        go (inl alive) (inl same) = inl (same, same_Some _ _ (sym cut.at_top ∙ ap (node_at new) (sym same) ∙ found))
        go (inl alive) (inr differs) = inr (differs, alive, sym (cut.same name differs alive) ∙ found)

    -- what a node was before, and its path
    pub was_at : (name : ℕ) (node : Node S) → node_at new name ≡ Some node → (was : Node S) × (node_at old name ≡ Some was) × (live name ≡ true) × (was.end ≡ node.end) × (path_at base old was ≡ path_at base old first ++ path_at first.end new node)
    was_at name node found = go (left_cases name node found)
      where
        at : (was : Node S) → node_at old name ≡ Some was → live name ≡ true → (was' : Node S) × (node_at old name ≡ Some was') × (live name ≡ true) × (was'.end ≡ node.end) × (path_at base old was' ≡ path_at base old first ++ path_at first.end new node)
        at was here alive =
            let left = left_at name was here alive in
            let same : left.now ≡ node = same_Some _ _ (sym left.now_is ∙ found) in
            (was, here, alive, sym left.end_is ∙ ap (λ (n : Node S). n.end) same, left.path_is ∙ ap (λ (n : Node S). path_at base old first ++ path_at first.end new n) same)

        go : ((name ≡ top) × (detached first ≡ node)) ⊎ ((name ≢ top) × (live name ≡ true) × (node_at old name ≡ Some node)) → (was : Node S) × (node_at old name ≡ Some was) × (live name ≡ true) × (was.end ≡ node.end) × (path_at base old was ≡ path_at base old first ++ path_at first.end new node)
        go (inl here) = at first (ap (node_at old) here.0 ∙ cut.first_is) (ap live here.0 ∙ cut.alive)
        go (inr there) = at node there.2 there.1

    pub cut_links : AreLinked first.end new
    unfolding below
    cut_links = record {
      low = λ name node found. let was = was_at name node found in let left = left_at name was.0 was.1 was.2 in omega (arith, left.low, was.3);
      high = λ name node found. let was = was_at name node found in omega (arith, cut.links.high name was.0 was.1, was.3, cut.links.low top first cut.first_is);
      top = λ name node found flat. elim (left_cases name node found) [
        | inl here ↦ ap (λ (n : Node S). n.edge) (sym here.1)
        | inr there ↦
            let up = cut.above name node there.2 there.0 there.1 in
            let left = left_at up.0.edge.parent up.0.parent up.0.parent_is up.1 in
            absurd (omega (arith, left.low, up.0.next, flat))
      ];
      linked = λ name node found deep. elim (left_cases name node found) [
        | inl here ↦ absurd (omega (arith, ap (λ (n : Node S). n.end) here.1, deep))
        | inr there ↦
            let up = cut.above name node there.2 there.0 there.1 in
            below node up.0 (left_at up.0.edge.parent up.0.parent up.0.parent_is up.1)
      ];
    }

    pub cut_distinct : AreDistinct base old → AreDistinct first.end new
    cut_distinct distinct j k m n atj atk e =
        let was = was_at j m atj in
        let also = was_at k n atk in
        distinct j k was.0 also.0 was.1 also.1 (was.4 ∙ ap (λ (r : Rows). path_at base old first ++ r) e ∙ sym also.4)

    -- the marks stay fresh where the time has lost the rows before the top's
    pub cut_fresh : (time left : Rows) → AreFresh base time old → ((k : ℕ) → slice_get left k ≡ slice_get time (first.end - base + k)) → AreFresh first.end left new
    cut_fresh time left fresh rest name node e found is = elim (left_cases name node found) [
      | inl here ↦ absurd (none-some e (ap (λ (n : Node S). n.edge) here.1 ∙ is))
      | inr there ↦
          let up = cut.above name node there.2 there.0 there.1 in
          let above = left_at up.0.edge.parent up.0.parent up.0.parent_is up.1 in
          let low = cut.links.low top first cut.first_is in
          let place : first.end - base + (node.end - first.end - 1) ≡ node.end - base - 1 = omega (arith, above.low, up.0.next) in
          subst (λ (o : Option (List Cell)). AreMarks o e.row e.marks) (sym (rest (node.end - first.end - 1) ∙ ap (slice_get time) place)) (fresh name node e there.2 is)
    ]

    -- the names that live stay in order
    live_after : (above : List ℕ) (name : ℕ) → IsAfter old above name → live name ≡ true → IsAfter new (filter live above) name
    live_after above name after alive = go (cases_eq name top)
      where
        once : has_name (filter live above) name ≡ false
        once = has_name-filter live above name ∙ ap (λ (b : Bool). b && live name) after.once

        go : (name ≡ top) ⊎ (name ≡ top → ⊥) → IsAfter new (filter live above) name
        go (inl same) = record {
          once = once;
          node = detached first;
          node_is = ap (node_at new) same ∙ cut.at_top;
          parent = λ e is. absurd (none-some e is);
        }
        go (inr differs) = record {
          once = once;
          node = after.node;
          node_is = cut.same name differs alive ∙ after.node_is;
          parent = λ e is.
              let up = cut.above name after.node after.node_is differs alive in
              let mine : up.0.edge ≡ e = same_Some _ _ (sym up.0.edge_is ∙ is) in
              has_name-filter live above e.parent
              ∙ ap (λ (b : Bool). b && live e.parent) (after.parent e is)
              ∙ ap (λ (x : Edge). live x.parent) (sym mine) ∙ up.1;
        }

    filter-one : (name : ℕ) (b : Bool) → live name ≡ b → filter live (name ∷ []) ≡ cond b (name ∷ []) []
    filter-one name b e = ap (λ (t : Bool). cond t (name ∷ []) (filter live [])) e

    pub cut_ordered : (above names : List ℕ) → AreOrdered old above names → AreOrdered new (filter live above) (filter live names)
    cut_ordered above [] ordered = tt
    cut_ordered above (n ∷ names) ordered = go (cases_Bool (live n)) (cut_ordered (above ++ n ∷ []) names ordered.1)
      where
        go : (live n ≡ true) ⊎ (live n ≡ false) → AreOrdered new (filter live (above ++ n ∷ [])) (filter live names) → AreOrdered new (filter live above) (filter live (n ∷ names))
        go (inl alive) rest =
            subst (AreOrdered new (filter live above)) (sym (ap (λ (b : Bool). cond b (n ∷ filter live names) (filter live names)) alive)) (
              live_after above n ordered.0 alive,
              subst (λ (l : List ℕ). AreOrdered new l (filter live names)) (filter-append live above (n ∷ []) ∙ ap (λ (l : List ℕ). filter live above ++ l) (filter-one n true alive)) rest,
            )
        go (inr dead) rest =
            subst (AreOrdered new (filter live above)) (sym (ap (λ (b : Bool). cond b (n ∷ filter live names) (filter live names)) dead))
            (subst (λ (l : List ℕ). AreOrdered new l (filter live names)) (filter-append live above (n ∷ []) ∙ ap (λ (l : List ℕ). filter live above ++ l) (filter-one n false dead) ∙ append-nil (filter live above)) rest)

-- what one function gives of the names that live is what another gives of them all, filtered and mapped
pub filter_map-live : {Y : Type 0} (live : ℕ → Bool) (f g : ℕ → Option Y) (p : Y → Bool) (h : Y → Y) (names : List ℕ) → ((name : ℕ) → has_name names name ≡ true → (y : Y) × (f name ≡ Some y) × (live name ≡ p y) × (live name ≡ true → g name ≡ Some (h y))) → filter_map g (filter live names) ≡ map h (filter p (filter_map f names))
filter_map-live live f g p h [] each = refl
filter_map-live live f g p h (n ∷ names) each =
    go (cases_Bool (live n)) (each n (or_left (eqb n n) (has_name names n) (eq-eqb n n refl))) (filter_map-live live f g p h names (λ name there. each name (or_right (eqb n name) (has_name names name) there)))
  where
    go : (live n ≡ true) ⊎ (live n ≡ false) → (y : _) × (f n ≡ Some y) × (live n ≡ p y) × (live n ≡ true → g n ≡ Some (h y)) → filter_map g (filter live names) ≡ map h (filter p (filter_map f names)) → filter_map g (filter live (n ∷ names)) ≡ map h (filter p (filter_map f (n ∷ names)))
    go (inl alive) one rest =
        let passes : p one.0 ≡ true = sym one.2 ∙ alive in
        ap (λ (b : Bool). filter_map g (cond b (n ∷ filter live names) (filter live names))) alive
        ∙ rw (one.3 alive, one.1, passes) (ap (λ l. h one.0 ∷ l) rest)
    go (inr dead) one rest =
        let fails : p one.0 ≡ false = sym one.2 ∙ dead in
        ap (λ (b : Bool). filter_map g (cond b (n ∷ filter live names) (filter live names))) dead
        ∙ rw (one.1, fails) rest
