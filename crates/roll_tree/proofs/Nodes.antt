-- Paths in a slab of nodes.
use Rattle.std.proofs.Common.{◌≡◌, ℕ, zero, suc, ◌+◌, ◌-◌, ◌≤◌, List, [], ◌∷◌, ◌++◌, length, take, Option, Some, None, refl, sym, ap, ◌∙◌, inl, inr, arith, length-append}
use Rattle.std.specs.Option.{option_map_or, option_and_then}
use Rattle.std.proofs.lemmas.List.{take-append-le, take_all}
use Rattle.std.proofs.lemmas.Option.{none-some, same_Some}
use Rattle.std.proofs.lemmas.Bool.{cases_eq, cases_lt}
use Rattle.roll_frame.specs.declared.row.Cell.{Cell}
use Rattle.roll_frame.specs.Cells.{Rows}
use Rattle.roll_tree.specs.Layout.{node_at, parent_of, row_of, rows_to, HasParent, AreLinked}
use Rattle.roll_tree.specs.declared.node.Edge.{Edge}
use Rattle.roll_tree.specs.declared.node.Node.{Node}

module _ {S : Type 0} where
  -- each node of the one is a node of the other
  pub record IsWithin (small big : List (Option (Node S))) : Type 0 where
    pub kept : (name : ℕ) (node : Node S) → node_at small name ≡ Some node → node_at big name ≡ Some node

  abbrev pub parent_within : (small big : List (Option (Node S))) (node : Node S) → IsWithin small big → HasParent small node → HasParent big node
  parent_within small big node within up = record { edge = up.edge; edge_is = up.edge_is; parent = up.parent; parent_is = within.kept up.edge.parent up.parent up.parent_is; next = up.next }

  -- the rows to a node below its parent
  pub rows_to-suc : (slots : List (Option (Node S))) (depth : ℕ) (node : Node S) → (up : HasParent slots node) → rows_to slots (suc depth) node ≡ rows_to slots depth up.parent ++ up.edge.row ∷ []
  rows_to-suc slots depth node up =
      let above : parent_of slots node ≡ Some up.parent = ap (λ (o : Option Edge). option_and_then (λ (e : Edge). node_at slots e.parent) o) up.edge_is ∙ up.parent_is in
      let row : row_of node ≡ up.edge.row = ap (λ (o : Option Edge). option_map_or (λ (e : Edge). e.row) o []) up.edge_is in
      ap (λ (p : Option (Node S)). option_map_or (rows_to slots depth) p [] ++ row_of node ∷ []) above
      ∙ ap (λ (r : List Cell). rows_to slots depth up.parent ++ r ∷ []) row

  pub length-rows_to : (base : ℕ) (slots : List (Option (Node S))) → AreLinked base slots → (depth name : ℕ) (node : Node S) → node_at slots name ≡ Some node → node.end ≡ base + depth → length (rows_to slots depth node) ≡ depth
  length-rows_to base slots links zero name node found e = refl
  length-rows_to base slots links (suc depth) name node found e =
      let up = links.linked name node found (omega arith) in
      let more = length-rows_to base slots links depth up.edge.parent up.parent up.parent_is (omega (arith, up.next)) in
      rw (rows_to-suc slots depth node up) (omega (arith, more, length-append (rows_to slots depth up.parent) (up.edge.row ∷ [])))

  -- the rows to a node stay, whatever else is there
  pub rows_to-within : (base : ℕ) (small big : List (Option (Node S))) → AreLinked base small → IsWithin small big → (depth name : ℕ) (node : Node S) → node_at small name ≡ Some node → node.end ≡ base + depth → rows_to small depth node ≡ rows_to big depth node
  rows_to-within base small big links within zero name node found e = refl
  rows_to-within base small big links within (suc depth) name node found e =
      let up = links.linked name node found (omega arith) in
      let more = rows_to-within base small big links within depth up.edge.parent up.parent up.parent_is (omega (arith, up.next)) in
      rows_to-suc small depth node up ∙ ap (λ (rows : Rows). rows ++ up.edge.row ∷ []) more ∙ sym (rows_to-suc big depth node (parent_within small big node within up))

  -- the path of a node
  abbrev pub path_at : ℕ → List (Option (Node S)) → Node S → Rows
  path_at base slots node = rows_to slots (node.end - base) node

  pub length-path_at : (base : ℕ) (slots : List (Option (Node S))) → AreLinked base slots → (name : ℕ) (node : Node S) → node_at slots name ≡ Some node → length (path_at base slots node) + base ≡ node.end
  length-path_at base slots links name node found =
      let low = links.low name node found in
      let many = length-rows_to base slots links (node.end - base) name node found (omega arith) in
      omega (arith, many, low)

  -- the path of a node below its parent
  pub path_at-under : (base : ℕ) (slots : List (Option (Node S))) (node : Node S) → (up : HasParent slots node) → base ≤ up.parent.end → path_at base slots node ≡ path_at base slots up.parent ++ up.edge.row ∷ []
  path_at-under base slots node up low =
      let depth : node.end - base ≡ suc (up.parent.end - base) = omega (arith, up.next, low) in
      ap (λ (d : ℕ). rows_to slots d node) depth ∙ rows_to-suc slots (up.parent.end - base) node up

  pub path_at-below : (base : ℕ) (slots : List (Option (Node S))) → AreLinked base slots → (node : Node S) → (up : HasParent slots node) → path_at base slots node ≡ path_at base slots up.parent ++ up.edge.row ∷ []
  path_at-below base slots links node up = path_at-under base slots node up (links.low up.edge.parent up.parent up.parent_is)

  pub path_at-top : (base : ℕ) (slots : List (Option (Node S))) (node : Node S) → node.end ≡ base → path_at base slots node ≡ []
  path_at-top base slots node e =
      let flat : node.end - base ≡ 0 = omega arith in
      ap (λ (d : ℕ). rows_to slots d node) flat

  pub path_at-within : (base : ℕ) (small big : List (Option (Node S))) → AreLinked base small → IsWithin small big → (name : ℕ) (node : Node S) → node_at small name ≡ Some node → path_at base small node ≡ path_at base big node
  path_at-within base small big links within name node found =
      rows_to-within base small big links within (node.end - base) name node found (omega (arith, links.low name node found))

  -- a node without an edge is at the base
  pub no_edge : (base : ℕ) (slots : List (Option (Node S))) → AreLinked base slots → (name : ℕ) (node : Node S) → node_at slots name ≡ Some node → node.edge ≡ None → node.end ≡ base
  no_edge base slots links name node found none = elim (cases_lt base node.end) [
    | inl above ↦ let up = links.linked name node found above in absurd (none-some up.edge (sym none ∙ up.edge_is))
    | inr at ↦ omega (arith, links.low name node found)
  ]

  -- and one with an edge has a parent
  pub with_edge : (base : ℕ) (slots : List (Option (Node S))) → AreLinked base slots → (name : ℕ) (node : Node S) (e : Edge) → node_at slots name ≡ Some node → node.edge ≡ Some e → (up : HasParent slots node) × (up.edge ≡ e)
  with_edge base slots links name node e found is = elim (cases_lt base node.end) [
    | inl above ↦ let up = links.linked name node found above in (up, same_Some _ _ (sym up.edge_is ∙ is))
    | inr at ↦ absurd (none-some e (sym (links.top name node found (omega (arith, links.low name node found))) ∙ is))
  ]

  -- each front of a node's path is a node's path
  pub front_at : (base : ℕ) (slots : List (Option (Node S))) → AreLinked base slots → (depth name : ℕ) (node : Node S) → node_at slots name ≡ Some node → node.end ≡ base + depth → (k : ℕ) → k ≤ depth → (other : ℕ) × (front : Node S) × (node_at slots other ≡ Some front) × (front.end ≡ base + k) × (rows_to slots k front ≡ take k (rows_to slots depth node))
  front_at base slots links zero name node found e k fits = let same : k ≡ 0 = omega arith in (name, node, found, omega arith, rw same)
  front_at base slots links (suc depth) name node found e k fits =
      elim (cases_eq k (suc depth)) [
        | inl same ↦
            let many = length-rows_to base slots links (suc depth) name node found e in
            (name, node, found, omega arith, ap (λ (d : ℕ). rows_to slots d node) same ∙ sym (take_all k (rows_to slots (suc depth) node) (omega (arith, many))))
        | inr differs ↦
            let up = links.linked name node found (omega arith) in
            let high : up.parent.end ≡ base + depth = omega (arith, up.next) in
            let many = length-rows_to base slots links depth up.edge.parent up.parent up.parent_is high in
            let more = front_at base slots links depth up.edge.parent up.parent up.parent_is high k (omega arith) in
            (more.0, more.1, more.2, more.3, more.4 ∙ sym (ap (take k) (rows_to-suc slots depth node up) ∙ take-append-le k (rows_to slots depth up.parent) (up.edge.row ∷ []) (omega (arith, many))))
      ]
