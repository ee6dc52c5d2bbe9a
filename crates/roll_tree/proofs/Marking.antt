-- A tree whose edges get other marks.
use Rattle.std.proofs.Common.{◌≡◌, ◌≢◌, ◌⊎◌, ℕ, zero, suc, ◌+◌, ◌-◌, ◌<◌, ◌≤◌, List, [], ◌∷◌, ◌++◌, length, take, get_or, Bool, true, false, Option, Some, None, refl, sym, ap, subst, ◌∙◌, inl, inr, arith, vec_capacity}
use Rattle.std.specs.Prelude.{option_map, slice_get}
use Rattle.std.proofs.lemmas.List.{take_more, take_all}
use Rattle.std.proofs.lemmas.Option.{none-some, same_Some}
use Rattle.std.proofs.lemmas.Bool.{cases_eq, false≢true}
use Rattle.slab.specs.Slab.{Slab, get, slab_len}
use Rattle.roll_frame.specs.declared.limits.TheConstants.{TREE_LIMIT}
use Rattle.roll_frame.specs.declared.row.Cell.{Cell}
use Rattle.roll_frame.specs.Cells.{Rows}
use Rattle.roll_tree.specs.Marks.{AreMarks}
use Rattle.roll_tree.specs.SavedStates.{SavedStates}
use Rattle.roll_tree.specs.Layout.{has_name, bare_edge, bare, AreLike, node_at, rows_to, saved_of, state_at, kept_of, HasParent, AreLinked, AreDistinct, IsAfter, AreOrdered, AreFresh, IsTree}
use Rattle.roll_tree.specs.declared.node.Edge.{Edge}
use Rattle.roll_tree.specs.declared.node.Node.{Node}
use Rattle.roll_tree.specs.declared.tree.Tree.TheInside.{Inside}
use Rattle.roll_tree.proofs.Names.{has_name_cases, has_name-front, has_itself, filter_map-same}
use Rattle.roll_tree.proofs.Nodes.{rows_to-suc, path_at, with_edge}
use Rattle.roll_tree.proofs.Prunes.{ordered_at, named_node}
use Rattle.roll_tree.proofs.States.{states_at}

bare_cases : (o : Option Edge) (e : Edge) → option_map bare_edge o ≡ Some (bare_edge e) → (f : Edge) × (o ≡ Some f) × (bare_edge f ≡ bare_edge e)
bare_cases None e same = absurd (none-some (bare_edge e) same)
bare_cases (Some f) e same = (f, refl, same_Some _ _ same)

bare_none : (o : Option Edge) → option_map bare_edge o ≡ None → o ≡ None
bare_none None same = refl
bare_none (Some f) same = absurd (none-some (bare_edge f) (sym same))

module _ {S : Type 0} where
  AreLike-turned : (old new : List (Option (Node S))) → AreLike old new → AreLike new old
  AreLike-turned old new like = record { at = λ name. sym (like.at name) }

  node_cases : (o : Option (Node S)) (node : Node S) → option_map bare o ≡ Some (bare node) → (now : Node S) × (o ≡ Some now) × (bare now ≡ bare node)
  node_cases None node same = absurd (none-some (bare node) same)
  node_cases (Some now) node same = (now, refl, same_Some _ _ same)

  like_at : (old new : List (Option (Node S))) → AreLike old new → (name : ℕ) (node : Node S) → node_at old name ≡ Some node → (now : Node S) × (node_at new name ≡ Some now) × (bare now ≡ bare node)
  like_at old new like name node found = node_cases (node_at new name) node (like.at name ∙ ap (option_map bare) found)

  same_end : (node now : Node S) → bare now ≡ bare node → now.end ≡ node.end
  same_end node now same = ap (λ (n : Node S). n.end) same

  like_edge : (node now : Node S) (e : Edge) → bare now ≡ bare node → node.edge ≡ Some e → (f : Edge) × (now.edge ≡ Some f) × (bare_edge f ≡ bare_edge e)
  like_edge node now e same is = bare_cases now.edge e (ap (λ (n : Node S). n.edge) same ∙ ap (option_map bare_edge) is)

  like_none : (node now : Node S) → bare now ≡ bare node → node.edge ≡ None → now.edge ≡ None
  like_none node now same none = bare_none now.edge (ap (λ (n : Node S). n.edge) same ∙ ap (option_map bare_edge) none)

  like_parent : (old new : List (Option (Node S))) → AreLike old new → (node now : Node S) → bare now ≡ bare node → (up : HasParent old node) → (above : HasParent new now) × (bare_edge above.edge ≡ bare_edge up.edge) × (bare above.parent ≡ bare up.parent)
  like_parent old new like node now same up =
      let edge = like_edge node now up.edge same up.edge_is in
      let parent = like_at old new like up.edge.parent up.parent up.parent_is in (
        record {
          edge = edge.0;
          edge_is = edge.1;
          parent = parent.0;
          parent_is = ap (λ (e : Edge). node_at new e.parent) edge.2 ∙ parent.1;
          next = omega (arith, up.next, same_end up.parent parent.0 parent.2, same_end node now same);
        },
        edge.2,
        parent.2,
      )

  like_rows : (base : ℕ) (old new : List (Option (Node S))) → AreLinked base old → AreLike old new → (depth name : ℕ) (node now : Node S) → node_at old name ≡ Some node → node.end ≡ base + depth → bare now ≡ bare node → rows_to new depth now ≡ rows_to old depth node
  like_rows base old new links like zero name node now found e same = refl
  like_rows base old new links like (suc depth) name node now found e same =
      let up = links.linked name node found (omega arith) in
      let above = like_parent old new like node now same up in
      let more = like_rows base old new links like depth up.edge.parent up.parent above.0.parent up.parent_is (omega (arith, up.next)) above.2 in
      rows_to-suc new depth now above.0
      ∙ ap (λ (r : Rows). r ++ above.0.edge.row ∷ []) more
      ∙ ap (λ (x : Edge). rows_to old depth up.parent ++ x.row ∷ []) above.1
      ∙ sym (rows_to-suc old depth node up)

  module _ (base : ℕ) (old new : List (Option (Node S))) (links : AreLinked base old) (like : AreLike old new) where
    -- the path of a node stays
    like_path : (name : ℕ) (node now : Node S) → node_at old name ≡ Some node → bare now ≡ bare node → path_at base new now ≡ path_at base old node
    like_path name node now found same =
        let depth : now.end - base ≡ node.end - base = ap (λ (n : ℕ). n - base) (same_end node now same) in
        ap (λ (d : ℕ). rows_to new d now) depth
        ∙ like_rows base old new links like (node.end - base) name node now found (omega (arith, links.low name node found)) same

    -- what a node was
    pub was_like : (name : ℕ) (now : Node S) → node_at new name ≡ Some now → (node : Node S) × (node_at old name ≡ Some node) × (bare now ≡ bare node)
    was_like name now found = let was = like_at new old (AreLike-turned old new like) name now found in (was.0, was.1, sym was.2)

    like_links : AreLinked base new
    like_links = record {
      low = λ name now found. let was = was_like name now found in omega (arith, links.low name was.0 was.1, same_end was.0 now was.2);
      high = λ name now found. let was = was_like name now found in omega (arith, links.high name was.0 was.1, same_end was.0 now was.2);
      top = λ name now found flat. let was = was_like name now found in like_none was.0 now was.2 (links.top name was.0 was.1 (omega (arith, flat, same_end was.0 now was.2)));
      linked = λ name now found deep. let was = was_like name now found in (like_parent old new like was.0 now was.2 (links.linked name was.0 was.1 (omega (arith, deep, same_end was.0 now was.2)))).0;
    }

    like_distinct : AreDistinct base old → AreDistinct base new
    like_distinct distinct j k m n atj atk e =
        let was = was_like j m atj in
        let also = was_like k n atk in
        distinct j k was.0 also.0 was.1 also.1 (sym (like_path j was.0 m was.1 was.2) ∙ e ∙ like_path k also.0 n also.1 also.2)

    like_ordered : (above names : List ℕ) → AreOrdered old above names → AreOrdered new above names
    like_ordered above [] ordered = tt
    like_ordered above (n ∷ names) ordered =
        let now = like_at old new like n ordered.0.node ordered.0.node_is in (
          record {
            once = ordered.0.once;
            node = now.0;
            node_is = now.1;
            parent = λ e is.
                let was = like_edge now.0 ordered.0.node e (sym now.2) is in
                sym (ap (λ (x : Edge). has_name above x.parent) was.2) ∙ ordered.0.parent was.0 was.1;
          },
          like_ordered (above ++ n ∷ []) names ordered.1,
        )

    like_states : (names : List ℕ) → AreOrdered old [] names → states_at base new names ≡ states_at base old names
    like_states names ordered = filter_map-same (state_at base new) (state_at base old) names same
      where
        same : (k : ℕ) → has_name names k ≡ true → state_at base new k ≡ state_at base old k
        same k h =
            let was = named_node old [] names ordered k h in
            let now = like_at old new like k was.0 was.1 in
            let path = like_path k was.0 now.0 was.1 now.2 in
            let snapshot = ap (λ (n : Node S). n.snapshot) now.2 in
            ap (option_map (saved_of base new k)) now.1
            ∙ ap Some (λ i. record { name = k; path = path i; snapshot = snapshot i })
            ∙ sym (ap (option_map (saved_of base old k)) was.1)

  -- the tree with other marks, and another time
  pub marked_tree : (t u : Inside S) → u.base ≡ t.base → u.root ≡ t.root → u.order ≡ t.order → IsTree t → AreLike t.nodes.slots u.nodes.slots → AreFresh t.base u.time.items u.nodes.slots → slab_len u.nodes ≡ slab_len t.nodes → u.nodes.capacity ≡ t.nodes.capacity → u.tip ≡ t.tip → IsTree u
  marked_tree t u base root order tree like fresh len capacity tip =
      let old = t.nodes.slots in
      let new = u.nodes.slots in
      let names : u.order.items ≡ t.order.items = ap (λ o. o.items) order in
      record {
        links = subst (λ (b : ℕ). AreLinked b new) (sym base) (like_links t.base old new tree.links like);
        distinct = subst (λ (b : ℕ). AreDistinct b new) (sym base) (like_distinct t.base old new tree.links like tree.distinct);
        fresh = subst (λ (b : ℕ). AreFresh b u.time.items new) (sym base) fresh;
        rooted = ap (λ (k : ℕ). option_map (λ (n : Node S). n.end) (node_at new k)) root ∙ ends (node_at new t.root) (node_at old t.root) (like.at t.root) ∙ tree.rooted ∙ ap Some (sym base);
        listed = λ name now found. let was = was_like t.base old new tree.links like name now found in ap (λ (l : List ℕ). has_name l name) names ∙ tree.listed name was.0 was.1;
        ordered = subst (AreOrdered new []) (sym names) (like_ordered t.base old new tree.links like [] t.order.items tree.ordered);
        counted = omega (arith, ap (λ (l : List ℕ). length l) names, tree.counted, len);
        few = omega (arith, tree.few, len);
        room = omega (arith, tree.room, capacity);
        space = subst (λ o. TREE_LIMIT ≤ vec_capacity o) (sym order) tree.space;
        tall = λ name now found. let was = was_like t.base old new tree.links like name now found in omega (arith, tree.tall name was.0 was.1, same_end was.0 now was.2, tip);
      }
    where
      ends : (o p : Option (Node S)) → option_map bare o ≡ option_map bare p → option_map (λ (n : Node S). n.end) o ≡ option_map (λ (n : Node S). n.end) p
      ends None None e = refl
      ends None (Some p) e = absurd (none-some (bare p) e)
      ends (Some o) None e = absurd (none-some (bare o) (sym e))
      ends (Some o) (Some p) e = ap Some (same_end p o (same_Some _ _ e))

  pub marked_view : (t u : Inside S) (kept : SavedStates S) (rows : Rows) → u.base ≡ t.base → u.root ≡ t.root → u.order ≡ t.order → u.time.items ≡ rows → kept_of t ≡ kept → IsTree t → AreLike t.nodes.slots u.nodes.slots → kept_of u ≡ record kept { time = rows }
  marked_view t u kept rows base root order time view tree like =
      let states : states_at u.base u.nodes.slots u.order.items ≡ states_at t.base t.nodes.slots t.order.items =
      ap (λ (b : ℕ). states_at b u.nodes.slots u.order.items) base
      ∙ ap (λ o. states_at t.base u.nodes.slots o.items) order
      ∙ like_states t.base t.nodes.slots u.nodes.slots tree.links like t.order.items tree.ordered in
      subst (λ (k : SavedStates S). kept_of u ≡ record k { time = rows }) view (λ i. record { base = base i; root = root i; states = states i; time = time i })

module _ {S : Type 0} (base : ℕ) (time rows : Rows) (old : Slab (Node S)) (names : List ℕ) where
  -- the marks of the names so far agree with the new rows, and the others' nodes are as they were
  pub record IsMarking (now : Slab (Node S)) (place : ℕ) : Type 0 where
    pub like : AreLike old.slots now.slots
    pub done : (name : ℕ) (node : Node S) (e : Edge) → has_name (take place names) name ≡ true → node_at now.slots name ≡ Some node → node.edge ≡ Some e → AreMarks (slice_get rows (node.end - base - 1)) e.row e.marks
    pub rest : (name : ℕ) → has_name (take place names) name ≡ false → get now name ≡ get old name
    pub len : slab_len now ≡ slab_len old
    pub capacity : now.capacity ≡ old.capacity

  pub IsMarking-start : IsMarking old 0
  IsMarking-start = record {
    like = record { at = λ name. refl };
    done = λ name node e h found is. absurd (false≢true h);
    rest = λ name h. refl;
    len = refl;
    capacity = refl;
  }

  -- at the end all marks agree with the rows
  pub IsMarking-end : AreLinked base old.slots → ((name : ℕ) (node : Node S) → node_at old.slots name ≡ Some node → has_name names name ≡ true) → (now : Slab (Node S)) (place : ℕ) → length names ≤ place → IsMarking now place → AreFresh base rows now.slots
  IsMarking-end links listed now place over marking name node e found is =
      let was = was_like base old.slots now.slots links marking.like name node found in
      marking.done name node e (ap (λ (l : List ℕ). has_name l name) (take_all place names over) ∙ listed name was.0 was.1) found is

  module _ (links : AreLinked base old.slots) (ordered : AreOrdered old.slots [] names) (now : Slab (Node S)) (place : ℕ) (within : place < length names) (marking : IsMarking now place) where
    abbrev name : ℕ
    name = get_or names place 0

    pub here : IsAfter old.slots (take place names) name
    here = ordered_at old.slots [] names ordered place within

    -- the name's node is as it was
    pub untouched_node : get now name ≡ Some here.node
    unfolding here
    untouched_node = marking.rest name here.once ∙ here.node_is

    pub was_fresh : AreFresh base time old.slots → (node : Node S) (e : Edge) → get now name ≡ Some node → node.edge ≡ Some e → AreMarks (slice_get time (node.end - base - 1)) e.row e.marks
    unfolding here
    was_fresh fresh node e found is = fresh name node e (sym (marking.rest name here.once) ∙ found) is

    pub was_below : (node : Node S) (e : Edge) → get now name ≡ Some node → node.edge ≡ Some e → base < node.end
    unfolding here
    was_below node e found is =
        let up = with_edge base old.slots links name node e (sym (marking.rest name here.once) ∙ found) is in
        omega (arith, up.0.next, links.low up.0.edge.parent up.0.parent up.0.parent_is)

    taken : take (place + 1) names ≡ take place names ++ name ∷ []
    taken = take_more names place 0 within

    before : (k : ℕ) → has_name (take (place + 1) names) k ≡ true → (has_name (take place names) k ≡ true) ⊎ (name ≡ k)
    before k h = has_name_cases (take place names) name k (ap (λ (l : List ℕ). has_name l k) (sym taken) ∙ h)

    after_all : (k : ℕ) → has_name (take (place + 1) names) k ≡ false → (has_name (take place names) k ≡ false) × (name ≢ k)
    after_all k h = (
      first (has_name (take place names) k) refl,
      λ same. false≢true (sym h ∙ ap (λ (l : List ℕ). has_name l k) taken ∙ ap (has_name (take place names ++ name ∷ [])) (sym same) ∙ has_itself (take place names) name),
    )
      where
        first : (b : Bool) → has_name (take place names) k ≡ b → has_name (take place names) k ≡ false
        first true e = absurd (false≢true (sym h ∙ ap (λ (l : List ℕ). has_name l k) taken ∙ has_name-front (take place names) name k e))
        first false e = e

    -- a node that has no edge
    pub IsMarking-past : (node : Node S) → get now name ≡ Some node → node.edge ≡ None → IsMarking now (place + 1)
    unfolding before after_all
    IsMarking-past node found none = record {
      like = marking.like;
      done = λ k other e h at is. elim (before k h) [
        | inl there ↦ marking.done k other e there at is
        | inr same ↦
            let mine : node ≡ other = same_Some _ _ (sym found ∙ ap (get now) same ∙ at) in
            absurd (none-some e (sym none ∙ ap (λ (n : Node S). n.edge) mine ∙ is))
      ];
      rest = λ k h. marking.rest k (after_all k h).0;
      len = marking.len;
      capacity = marking.capacity;
    }

    -- and one whose edge gets its marks
    pub IsMarking-more : (after : Slab (Node S)) (node : Node S) (e : Edge) (marks : ℕ) → get now name ≡ Some node → node.edge ≡ Some e → AreMarks (slice_get rows (node.end - base - 1)) e.row marks → get after name ≡ Some (record node { edge = Some (record e { marks = marks }) }) → ((other : ℕ) → other ≢ name → get after other ≡ get now other) → slab_len after ≡ slab_len now → after.capacity ≡ now.capacity → IsMarking after (place + 1)
    unfolding before after_all
    IsMarking-more after node e marks found is are changed others len capacity = record {
      like = record { at = λ k. like k (cases_eq k name) };
      done = λ k other f h at f_is. done k other f h at f_is (cases_eq k name);
      rest = λ k h. let out = after_all k h in others k (λ same. out.1 (sym same)) ∙ marking.rest k out.0;
      len = len ∙ marking.len;
      capacity = capacity ∙ marking.capacity;
    }
      where
        like : (k : ℕ) → (k ≡ name) ⊎ (k ≡ name → ⊥) → option_map bare (get after k) ≡ option_map bare (get old k)
        like k (inl same) =
            ap (λ (n : ℕ). option_map bare (get after n)) same
            ∙ ap (option_map bare) changed
            ∙ ap (λ (o : Option Edge). Some (record node { edge = option_map bare_edge o })) (sym is)
            ∙ sym (ap (option_map bare) found)
            ∙ marking.like.at name
            ∙ ap (λ (n : ℕ). option_map bare (get old n)) (sym same)
        like k (inr apart) = ap (option_map bare) (others k apart) ∙ marking.like.at k

        done : (k : ℕ) (other : Node S) (f : Edge) → has_name (take (place + 1) names) k ≡ true → get after k ≡ Some other → other.edge ≡ Some f → (k ≡ name) ⊎ (k ≡ name → ⊥) → AreMarks (slice_get rows (other.end - base - 1)) f.row f.marks
        done k other f h at f_is (inl same) =
            let mine : record node { edge = Some (record e { marks = marks }) } ≡ other = same_Some _ _ (sym changed ∙ ap (get after) (sym same) ∙ at) in
            let edge : record e { marks = marks } ≡ f = same_Some _ _ (ap (λ (n : Node S). n.edge) mine ∙ f_is) in
            subst (λ (x : Edge). AreMarks (slice_get rows (other.end - base - 1)) x.row x.marks) edge
            (subst (λ (n : Node S). AreMarks (slice_get rows (n.end - base - 1)) e.row marks) mine are)
        done k other f h at f_is (inr apart) = elim (before k h) [
          | inl there ↦ marking.done k other f there (sym (others k apart) ∙ at) f_is
          | inr same ↦ absurd (apart (sym same))
        ]

    -- and one whose edge keeps them, since the rows have no other row in its frame
    pub IsMarking-kept : AreFresh base time old.slots → (node : Node S) → get now name ≡ Some node → (base < node.end → slice_get rows (node.end - base - 1) ≡ slice_get time (node.end - base - 1)) → IsMarking now (place + 1)
    IsMarking-kept fresh node found same = go node.edge refl
      where
        go : (o : Option Edge) → node.edge ≡ o → IsMarking now (place + 1)
        go None none = IsMarking-past node found none
        go (Some e) is =
            IsMarking-more now node e e.marks found is (subst (λ (o : Option (List Cell)). AreMarks o e.row e.marks) (sym (same (was_below node e found is))) (was_fresh fresh node e found is))
            (found ∙ ap (λ (o : Option Edge). Some (record node { edge = o })) is) (λ other apart. refl) refl refl

-- a row behind others is in its own place, and elsewhere nothing changes
pub next_row : (time : Rows) (row : List Cell) (k : ℕ) → k ≡ length time → slice_get (time ++ row ∷ []) k ≡ Some row
next_row [] row zero h = refl
next_row [] row (suc k) h = absurd (omega (arith, h))
next_row (r ∷ time) row zero h = absurd (omega (arith, h))
next_row (r ∷ time) row (suc k) h = next_row time row k (omega (arith, h))

pub other_row : (time : Rows) (row : List Cell) (k : ℕ) → k ≢ length time → slice_get (time ++ row ∷ []) k ≡ slice_get time k
other_row [] row zero h = absurd (h refl)
other_row [] row (suc k) h = refl
other_row (r ∷ time) row zero h = refl
other_row (r ∷ time) row (suc k) h = other_row time row k (λ e. h (omega (arith, e)))

-- where all nodes end before a row, it marks none of them
pub fresh_before : {S : Type 0} (base tip : ℕ) (time : Rows) (row : List Cell) (slots : List (Option (Node S))) → AreLinked base slots → AreFresh base time slots → ((name : ℕ) (node : Node S) → node_at slots name ≡ Some node → node.end ≤ tip) → tip < base + length time + 1
    → AreFresh base (time ++ row ∷ []) slots
fresh_before base tip time row slots links fresh tall high name node e found is =
    let up = with_edge base slots links name node e found is in
    let deep = links.low up.0.edge.parent up.0.parent up.0.parent_is in
    subst (λ o. AreMarks o e.row e.marks) (sym (other_row time row (node.end - base - 1) (λ same. absurd (omega (arith, same, tall name node found, high, up.0.next, deep))))) (fresh name node e found is)
