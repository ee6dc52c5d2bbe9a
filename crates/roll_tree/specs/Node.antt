-- What a node is to another.
use Rattle.std.specs.Prelude.{ℕ, ◌==◌, ◌&&◌, List, Bool, false}
use Rattle.std.specs.Option.{option_map_or}
use Rattle.roll_frame.specs.declared.row.Cell.{Cell}
use Rattle.roll_frame.specs.Cells.{row_eq}
use Rattle.roll_tree.specs.declared.node.Edge.{Edge}
use Rattle.roll_tree.specs.declared.node.Node.{Node}

module _ {S : Type 0} where
  -- whether the node hangs by this row below the node of this name
  abbrev pub is_child_of : ℕ → Node S → List Cell → Bool
  is_child_of parent node row = option_map_or (λ (e : Edge). e.parent == parent && row_eq e.row row) node.edge false

  -- whether it hangs there by an edge without marks
  abbrev pub is_unmarked_of : ℕ → Node S → Bool
  is_unmarked_of parent node = option_map_or (λ (e : Edge). e.parent == parent && e.marks == 0) node.edge false
