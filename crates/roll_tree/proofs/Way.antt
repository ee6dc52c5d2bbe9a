-- The walk along the names of a tree that finds how far the tree goes with some rows.
use Rattle.std.proofs.Common.{◌≡◌, ◌⊎◌, ◌&&◌, ℕ, ◌+◌, ◌<◌, ◌≤◌, List, [], ◌∷◌, ◌++◌, length, take, get_or, Bool, true, false, Option, Some, None, refl, sym, ap, subst, ◌∙◌, inl, inr, arith, length-append, length-take, eqb}
use Rattle.std.specs.Prelude.{reverse, option_map}
use Rattle.std.specs.Option.{option_map_or}
use Rattle.std.proofs.lemmas.List.{take_more, take_all, reverse-append, reverse-reverse}
use Rattle.std.proofs.lemmas.Option.{none-some, same_Some}
use Rattle.std.proofs.lemmas.Bool.{cases_eq, cases_lt, false≢true, eqb-true, eq-eqb, and_parts}
use Rattle.roll_frame.specs.declared.row.Cell.{Cell}
use Rattle.roll_frame.specs.Cells.{Rows, row_eq}
use Rattle.roll_frame.specs.Impls.Equal.{row_eq-Decides}
use Rattle.roll_frame.specs.Paths.{begins_with, longest}
use Rattle.roll_frame.proofs.Beginnings.{begins, begins_is}
use Rattle.roll_tree.specs.Layout.{has_name, node_at, AreLinked, AreDistinct, IsAfter, AreOrdered, IsTree}
use Rattle.roll_tree.specs.Node.{is_child_of}
use Rattle.roll_tree.specs.declared.node.Edge.{Edge}
use Rattle.roll_tree.specs.declared.node.Node.{Node}
use Rattle.roll_tree.specs.declared.tree.Tree.TheInside.{Inside}
use Rattle.roll_tree.proofs.Names.{option_cases, has_name_cases}
use Rattle.roll_tree.proofs.Nodes.{path_at, path_at-top, path_at-below, length-path_at, no_edge, with_edge}
use Rattle.roll_tree.proofs.Prunes.{ordered_at}
use Rattle.roll_tree.proofs.States.{paths_at, longest_at_least, longest_at_most}

head_tail : (a b : Rows) (x y : List Cell) → x ∷ a ≡ y ∷ b → (a ≡ b) × (x ≡ y)
head_tail a b x y e = (cc, cc)

same_last : (a b : Rows) (x y : List Cell) → a ++ x ∷ [] ≡ b ++ y ∷ [] → (a ≡ b) × (x ≡ y)
same_last a b x y same =
    let turned = head_tail (reverse a) (reverse b) x y (sym (reverse-append a (x ∷ [])) ∙ ap reverse same ∙ reverse-append b (y ∷ [])) in
    (sym (reverse-reverse a) ∙ ap reverse turned.0 ∙ reverse-reverse b, turned.1)

-- rows that are a front and one more are as long as they say, and their front is a front
front_of : (q p : Rows) (r : List Cell) → p ++ r ∷ [] ≡ take (length p + 1) q → (length p < length q) × (p ≡ take (length p) q) × (r ≡ get_or q (length p) [])
front_of q p r e = go (cases_lt (length p) (length q))
  where
    go : (length p < length q) ⊎ (length q ≤ length p) → (length p < length q) × (p ≡ take (length p) q) × (r ≡ get_or q (length p) [])
    go (inl less) = let both = same_last p (take (length p) q) r (get_or q (length p) []) (e ∙ take_more q (length p) [] less) in (less, both.0, both.1)
    go (inr more) = absurd (omega (arith, length-append p (r ∷ []), ap (λ (l : Rows). length l) e, length-take (length p + 1) q))

module _ {S : Type 0} (base : ℕ) (slots : List (Option (Node S))) (order : List ℕ) (rows : Rows) where
  -- the walk has seen the names before a place, and stands as deep as it can
  pub record IsOnWay (place best depth : ℕ) : Type 0 where
    pub node : Node S
    pub node_is : node_at slots best ≡ Some node
    pub path_is : path_at base slots node ≡ take depth rows
    pub within : depth ≤ length rows
    pub deepest : (name : ℕ) (other : Node S) → has_name (take place order) name ≡ true → node_at slots name ≡ Some other → begins_with rows (path_at base slots other) ≡ true → length (path_at base slots other) ≤ depth

  module _ (links : AreLinked base slots) (distinct : AreDistinct base slots) (ordered : AreOrdered slots [] order) (place best depth : ℕ) (seen : place < length order) (way : IsOnWay place best depth) (node : Node S) (node_is : node_at slots (get_or order place 0) ≡ Some node) where
    abbrev name : ℕ
    name = get_or order place 0

    here : IsAfter slots (take place order) name
    here = ordered_at slots [] order ordered place seen

    abbrev is_child : List Cell → Bool
    is_child row = is_child_of best node row

    -- where the rows begin with the node's path, it is no deeper, or the next on the way
    fits : begins_with rows (path_at base slots node) ≡ true → (length (path_at base slots node) ≤ depth) ⊎ ((length (path_at base slots node) ≡ depth + 1) × (is_child (get_or rows depth []) ≡ true))
    unfolding here
    fits b = go node.edge refl
      where
        mine : here.node ≡ node
        mine = same_Some _ _ (sym here.node_is ∙ node_is)

        go : (o : Option Edge) → node.edge ≡ o → (length (path_at base slots node) ≤ depth) ⊎ ((length (path_at base slots node) ≡ depth + 1) × (is_child (get_or rows depth []) ≡ true))
        go None none = inl (rw (path_at-top base slots node (no_edge base slots links name node node_is none)) (omega arith))
        go (Some e) is =
            let up = with_edge base slots links name node e node_is is in
            let parent = up.0.parent in
            let path = path_at-below base slots links node up.0 in
            let long : length (path_at base slots node) ≡ length (path_at base slots parent) + 1 = ap (λ (l : Rows). length l) path ∙ length-append (path_at base slots parent) (up.0.edge.row ∷ []) in
            let front = front_of rows (path_at base slots parent) up.0.edge.row (sym path ∙ begins_is rows (path_at base slots node) b ∙ ap (λ (n : ℕ). take n rows) long) in
            let named : has_name (take place order) up.0.edge.parent ≡ true = here.parent up.0.edge (ap (λ (n : Node S). n.edge) mine ∙ up.0.edge_is) in
            let least = way.deepest up.0.edge.parent parent named up.0.parent_is (begins rows (path_at base slots parent) front.1) in
            elim (cases_eq (length (path_at base slots parent)) depth) [
              | inl same ↦
                  let at_best : up.0.edge.parent ≡ best = distinct up.0.edge.parent best parent way.node up.0.parent_is way.node_is (front.1 ∙ ap (λ (n : ℕ). take n rows) same ∙ sym way.path_is) in
                  let row : up.0.edge.row ≡ get_or rows depth [] = front.2 ∙ ap (λ (n : ℕ). get_or rows n []) same in
                  let child : is_child (get_or rows depth []) ≡ true = rw up.0.edge_is (rw (eq-eqb up.0.edge.parent best at_best, (row_eq-Decides up.0.edge.row (get_or rows depth [])).1 row) refl) in
                  inr (omega (arith, long, same), child)
              | inr differs ↦ inl (omega (arith, long, least))
            ]

    -- a node that isn't the next on the way
    pub way_past : is_child (get_or rows depth []) ≡ false → IsOnWay (place + 1) best depth
    way_past out = record {
      node = way.node;
      node_is = way.node_is;
      path_is = way.path_is;
      within = way.within;
      deepest = λ k other h found b. go k other found b (has_name_cases (take place order) name k (ap (λ (l : List ℕ). has_name l k) (sym (take_more order place 0 seen)) ∙ h));
    }
      where
        go : (k : ℕ) (other : Node S) → node_at slots k ≡ Some other → begins_with rows (path_at base slots other) ≡ true → (has_name (take place order) k ≡ true) ⊎ (name ≡ k) → length (path_at base slots other) ≤ depth
        go k other found b (inl before) = way.deepest k other before found b
        go k other found b (inr same) =
            let mine : node ≡ other = same_Some _ _ (sym node_is ∙ ap (node_at slots) same ∙ found) in
            elim (fits (subst (λ (n : Node S). begins_with rows (path_at base slots n) ≡ true) (sym mine) b)) [
              | inl fits ↦ subst (λ (n : Node S). length (path_at base slots n) ≤ depth) mine fits
              | inr child ↦ absurd (false≢true (sym out ∙ child.1))
            ]

    -- and one that is
    pub way_on : depth < length rows → is_child (get_or rows depth []) ≡ true → IsOnWay (place + 1) name (depth + 1)
    way_on room child = go node.edge refl
      where
        deeper : (k : ℕ) (other : Node S) → node_at slots k ≡ Some other → begins_with rows (path_at base slots other) ≡ true → (has_name (take place order) k ≡ true) ⊎ (name ≡ k) → length (path_at base slots other) ≤ depth + 1
        deeper k other found b (inl before) = let least = way.deepest k other before found b in omega (arith, least)
        deeper k other found b (inr same) =
            let mine : node ≡ other = same_Some _ _ (sym node_is ∙ ap (node_at slots) same ∙ found) in
            elim (fits (subst (λ (n : Node S). begins_with rows (path_at base slots n) ≡ true) (sym mine) b)) [
              | inl fits ↦ subst (λ (n : Node S). length (path_at base slots n) ≤ depth + 1) mine (omega (arith, fits))
              | inr next ↦ subst (λ (n : Node S). length (path_at base slots n) ≤ depth + 1) mine (omega (arith, next.0))
            ]

        go : (o : Option Edge) → node.edge ≡ o → IsOnWay (place + 1) name (depth + 1)
        go None none = absurd (false≢true (sym (ap (λ (o : Option Edge). option_map_or (λ (e : Edge). eqb e.parent best && row_eq e.row (get_or rows depth [])) o false) none) ∙ child))
        go (Some e) is =
            let tests = and_parts (eqb e.parent best) (row_eq e.row (get_or rows depth [])) (sym (ap (λ (o : Option Edge). option_map_or (λ (e : Edge). eqb e.parent best && row_eq e.row (get_or rows depth [])) o false) is) ∙ child) in
            let up = with_edge base slots links name node e node_is is in
            let at_best : up.0.edge.parent ≡ best = ap (λ (x : Edge). x.parent) up.1 ∙ eqb-true e.parent best tests.0 in
            let parent : up.0.parent ≡ way.node = same_Some _ _ (sym up.0.parent_is ∙ ap (node_at slots) at_best ∙ way.node_is) in
            let row : up.0.edge.row ≡ get_or rows depth [] = ap (λ (x : Edge). x.row) up.1 ∙ (row_eq-Decides e.row (get_or rows depth [])).0 tests.1 in
            record {
              node = node;
              node_is = node_is;
              path_is =
                  path_at-below base slots links node up.0
                  ∙ ap (λ (n : Node S). path_at base slots n ++ up.0.edge.row ∷ []) parent
                  ∙ ap (λ (r : Rows). r ++ up.0.edge.row ∷ []) way.path_is
                  ∙ ap (λ (r : List Cell). take depth rows ++ r ∷ []) row
                  ∙ sym (take_more rows depth [] room);
              within = omega arith;
              deepest = λ k other h found b. deeper k other found b (has_name_cases (take place order) name k (ap (λ (l : List ℕ). has_name l k) (sym (take_more order place 0 seen)) ∙ h));
            }

  -- at the end it stands as deep as any of the paths that the rows begin with
  pub way_end : (place best depth : ℕ) → IsOnWay place best depth → (length order ≤ place) ⊎ (length rows ≤ depth) → ((name : ℕ) (node : Node S) → node_at slots name ≡ Some node → has_name order name ≡ true) → longest (paths_at base slots order) rows ≡ depth
  way_end place best depth way over listed =
      let many : length (path_at base slots way.node) ≡ depth = ap (λ (l : Rows). length l) way.path_is ∙ omega (arith, length-take depth rows, way.within) in
      let least = longest_at_least base slots order rows best way.node (listed best way.node way.node_is) way.node_is (begins rows (path_at base slots way.node) (way.path_is ∙ ap (λ (n : ℕ). take n rows) (sym many))) in
      let most = longest_at_most base slots order rows depth (λ name node h found b. bound name node h found b over) in
      omega (arith, many, least, most)
    where
      bound : (name : ℕ) (node : Node S) → has_name order name ≡ true → node_at slots name ≡ Some node → begins_with rows (path_at base slots node) ≡ true → (length order ≤ place) ⊎ (length rows ≤ depth) → length (path_at base slots node) ≤ depth
      bound name node h found b (inl all) = way.deepest name node (ap (λ (l : List ℕ). has_name l name) (take_all place order all) ∙ h) found b
      bound name node h found b (inr short) = omega (arith, length-take (length (path_at base slots node)) rows, ap (λ (l : Rows). length l) (begins_is rows (path_at base slots node) b), short)

module _ {S : Type 0} (t : Inside S) (rows : Rows) (tree : IsTree t) where
  -- at first it stands at the root
  pub way_start : IsOnWay t.base t.nodes.slots t.order.items rows 0 t.root 0
  way_start = go (option_cases (node_at t.nodes.slots t.root))
    where
      go : (node_at t.nodes.slots t.root ≡ None) ⊎ ((node : Node S) × (node_at t.nodes.slots t.root ≡ Some node)) → IsOnWay t.base t.nodes.slots t.order.items rows 0 t.root 0
      go (inl none) = absurd (none-some t.base (ap (option_map (λ (n : Node S). n.end)) (sym none) ∙ tree.rooted))
      go (inr some) = record {
        node = some.0;
        node_is = some.1;
        path_is = path_at-top t.base t.nodes.slots some.0 (same_Some _ _ (ap (option_map (λ (n : Node S). n.end)) (sym some.1) ∙ tree.rooted));
        within = omega arith;
        deepest = λ name other h found b. absurd (false≢true h);
      }

  pub way_length : (place best depth : ℕ) → (way : IsOnWay t.base t.nodes.slots t.order.items rows place best depth) → way.node.end ≡ t.base + depth
  way_length place best depth way =
      omega (arith, length-path_at t.base t.nodes.slots tree.links best way.node way.node_is, ap (λ (l : Rows). length l) way.path_is, length-take depth rows, way.within)
