-- How a `Tree` lies in its slab. No public clause cites this module.
use Rattle.std.specs.Prelude.{◌≡◌, ℕ, zero, suc, ◌+◌, ◌-◌, ◌<◌, ◌≤◌, List, length, [], ◌∷◌, ◌++◌, Bool, true, false, Option, Some, None, option_map, slice_get, slice_index_or, vec_capacity, ◌==◌}
use Rattle.std.specs.List.{filter_map, list_any}
use Rattle.std.specs.Option.{option_map_or, option_and_then}
use Rattle.slab.specs.Slab.{slab_len}
use Rattle.roll_frame.specs.declared.row.Cell.{Cell}
use Rattle.roll_frame.specs.declared.limits.TheConstants.{PATH_LIMIT, TREE_LIMIT}
use Rattle.roll_frame.specs.Cells.{Rows}
use Rattle.roll_tree.specs.SavedStates.{Saved, SavedStates}
use Rattle.roll_tree.specs.Marks.{AreMarks}
use Rattle.roll_tree.specs.declared.node.Edge.{Edge}
use Rattle.roll_tree.specs.declared.node.Node.{Node}
use Rattle.roll_tree.specs.declared.tree.Tree.TheInside.{Inside}

-- whether a name is one of these
abbrev pub has_name : List ℕ → ℕ → Bool
has_name names name = list_any (λ n. n == name) names

abbrev pub bare_edge : Edge → Edge
bare_edge e = record e { marks = 0 }

module _ {S : Type 0} where
  -- the node of this name
  abbrev pub node_at : List (Option (Node S)) → ℕ → Option (Node S)
  node_at slots name = slice_index_or slots name None

  -- the node above
  abbrev pub parent_of : List (Option (Node S)) → Node S → Option (Node S)
  parent_of slots node = option_and_then (λ (e : Edge). node_at slots e.parent) node.edge

  abbrev pub row_of : Node S → List Cell
  row_of node = option_map_or (λ (e : Edge). e.row) node.edge []

  -- the rows to a node that is so many edges below the root
  abbrev pub rows_to : List (Option (Node S)) → ℕ → Node S → Rows
  rows_to slots zero node = []
  rows_to slots (suc depth) node = option_map_or (rows_to slots depth) (parent_of slots node) [] ++ row_of node ∷ []

  -- a node as it is seen
  abbrev pub saved_of : ℕ → List (Option (Node S)) → ℕ → Node S → Saved S
  saved_of base slots name node = record { name = name; path = rows_to slots (node.end - base) node; snapshot = node.snapshot }

  abbrev pub state_at : ℕ → List (Option (Node S)) → ℕ → Option (Saved S)
  state_at base slots name = option_map (saved_of base slots name) (node_at slots name)

  abbrev pub kept_of : Inside S → SavedStates S
  kept_of t = record { base = t.base; root = t.root; states = filter_map (state_at t.base t.nodes.slots) t.order.items; time = t.time.items }

  -- an edge leads up from the node, one frame
  pub record HasParent (slots : List (Option (Node S))) (node : Node S) : Type 0 where
    pub edge : Edge
    pub edge_is : node.edge ≡ Some edge
    pub parent : Node S
    pub parent_is : node_at slots edge.parent ≡ Some parent
    pub next : parent.end + 1 ≡ node.end

  -- each node is at most 24 rows below the base. One at the base has no edge, and each other a parent
  pub record AreLinked (base : ℕ) (slots : List (Option (Node S))) : Type 0 where
    pub low : (name : ℕ) (node : Node S) → node_at slots name ≡ Some node → base ≤ node.end
    pub high : (name : ℕ) (node : Node S) → node_at slots name ≡ Some node → node.end ≤ base + PATH_LIMIT
    pub top : (name : ℕ) (node : Node S) → node_at slots name ≡ Some node → node.end ≡ base → node.edge ≡ None
    pub linked : (name : ℕ) (node : Node S) → node_at slots name ≡ Some node → base < node.end → HasParent slots node

  -- no two nodes have the same rows
  abbrev pub AreDistinct : ℕ → List (Option (Node S)) → Type 0
  AreDistinct base slots = (j k : ℕ) (m n : Node S) → node_at slots j ≡ Some m → node_at slots k ≡ Some n → rows_to slots (m.end - base) m ≡ rows_to slots (n.end - base) n → j ≡ k

  -- a name of a node that isn't one of these, while its parent's is
  pub record IsAfter (slots : List (Option (Node S))) (above : List ℕ) (name : ℕ) : Type 0 where
    pub once : has_name above name ≡ false
    pub node : Node S
    pub node_is : node_at slots name ≡ Some node
    pub parent : (e : Edge) → node.edge ≡ Some e → has_name above e.parent ≡ true

  -- each of the names comes once, and after those above it and its parent's
  abbrev pub AreOrdered : List (Option (Node S)) → List ℕ → List ℕ → Type 0
  AreOrdered slots above [] = Unit {0}
  AreOrdered slots above (name ∷ names) = IsAfter slots above name × AreOrdered slots (above ++ name ∷ []) names

  -- marks that were changed in place are the marks computed afresh: each edge's tell where its row differs from the
  -- timeline's row of its frame
  abbrev pub AreFresh : ℕ → Rows → List (Option (Node S)) → Type 0
  AreFresh base time slots = (name : ℕ) (node : Node S) (e : Edge) → node_at slots name ≡ Some node → node.edge ≡ Some e → AreMarks (slice_get time (node.end - base - 1)) e.row e.marks

  -- a node without its marks
  abbrev pub bare : Node S → Node S
  bare node = record node { edge = option_map bare_edge node.edge }

  -- the nodes are the same but for their marks
  pub record AreLike (old new : List (Option (Node S))) : Type 0 where
    pub at : (name : ℕ) → option_map bare (node_at new name) ≡ option_map bare (node_at old name)

  pub record IsTree (t : Inside S) : Type 0 where
    pub links : AreLinked t.base t.nodes.slots
    pub distinct : AreDistinct t.base t.nodes.slots
    pub fresh : AreFresh t.base t.time.items t.nodes.slots
    pub rooted : option_map (λ (n : Node S). n.end) (node_at t.nodes.slots t.root) ≡ Some t.base
    pub listed : (name : ℕ) (node : Node S) → node_at t.nodes.slots name ≡ Some node → has_name t.order.items name ≡ true
    pub ordered : AreOrdered t.nodes.slots [] t.order.items
    pub counted : length t.order.items ≡ slab_len t.nodes
    pub few : slab_len t.nodes ≤ TREE_LIMIT
    pub room : TREE_LIMIT ≤ t.nodes.capacity
    pub space : TREE_LIMIT ≤ vec_capacity t.order
    pub tall : (name : ℕ) (node : Node S) → node_at t.nodes.slots name ≡ Some node → node.end ≤ t.tip
