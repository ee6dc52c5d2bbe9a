-- Which edges a pruning leaves.
use Rattle.std.specs.Prelude.{◌≡◌, ℕ, ◌+◌, ◌||◌, ◌&&◌, not, nat_eq, Bool, true, false, List, length, filter, slice_get, Option, Some, None, if◌then◌else◌}
use Rattle.std.specs.Option.{option_map_or}
use Rattle.roll_frame.specs.declared.row.Cell.{Cell}
use Rattle.roll_frame.specs.Cells.{cell_eq}
use Rattle.slab.specs.Slab.{Slab, get, slab_len}
use Rattle.roll_tree.specs.Layout.{node_at, has_name}
use Rattle.roll_tree.specs.declared.node.Edge.{Edge}
use Rattle.roll_tree.specs.declared.node.Node.{Node}
use Rattle.roll_tree.specs.declared.prune.Rule.{Rule}
use Rattle.roll_tree.specs.declared.prune.Rule.TheVariants.{Any, Agrees}

-- whether a row has no other cell than this at a place
abbrev pub agrees : ℕ → Cell → List Cell → Bool
agrees place cell row = option_map_or (λ c. cell_eq c cell) (slice_get row place) true

-- whether an edge that ends at this frame may stay
abbrev pub allows : Rule → ℕ → List Cell → Bool
allows Any end row = true
allows (Agrees place frame cell) end row = not (nat_eq end (frame + 1)) || agrees place cell row

module _ {S : Type 0} where
  -- the test tells which nodes stay: the top, and those below one that stays by an edge that the rule allows
  pub record IsLive (top : ℕ) (rule : Rule) (slots : List (Option (Node S))) (live : ℕ → Bool) : Type 0 where
    pub step : (name : ℕ) (node : Node S) → node_at slots name ≡ Some node → live name ≡ (nat_eq name top || option_map_or (λ (e : Edge). live e.parent && allows rule node.end e.row) node.edge false)

  -- of the nodes of these names those stay that the test names, and so do their names
  pub record IsPruned (live : ℕ → Bool) (old new : Slab (Node S)) (names kept : List ℕ) : Type 0 where
    pub nodes : (name : ℕ) → get new name ≡ (if has_name names name && not (live name) then None else get old name)
    pub kept_is : kept ≡ filter live names
    pub counted : slab_len new + length names ≡ slab_len old + length kept
