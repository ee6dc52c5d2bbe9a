-- Where a path and the path one row further begin with the same, or have the same cell.
use Rattle.std.proofs.Common.{◌≡◌, ◌≢◌, ◌⊎◌, ◌||◌, ◌&&◌, not, ℕ, zero, suc, ◌+◌, ◌-◌, ◌<◌, ◌≤◌, List, [], ◌∷◌, ◌++◌, length, take, Bool, true, false, cond, Option, Some, None, refl, sym, ap, ◌∙◌, inl, inr, arith, length-append, length-take, eqb}
use Rattle.std.specs.Prelude.{slice_get}
use Rattle.std.specs.Cmp.Lexicographic.{pointwise}
use Rattle.std.specs.Option.{option_map_or}
use Rattle.std.proofs.lemmas.List.{take-append-le, take_all, get_or_append_left}
use Rattle.std.proofs.lemmas.Option.{slice_get_past, slice_get-get_or}
use Rattle.std.proofs.lemmas.Bool.{cases_eq, cases_lt, eqb-true, eq-eqb}
use Rattle.std.proofs.Math.Bool.{and-true, not-not}
use Rattle.roll_frame.specs.declared.row.Cell.{Cell}
use Rattle.roll_frame.specs.Cells.{Rows, cell_eq, row_eq}
use Rattle.roll_frame.specs.Claims.{cell_of_row, cell_in}
use Rattle.roll_frame.specs.Paths.{begins_with}
use Rattle.roll_frame.proofs.Beginnings.{begins, begins_is}
use Rattle.roll_tree.specs.SavedStates.{has_other}
use Rattle.roll_tree.specs.Layout.{node_at, IsTree}
use Rattle.roll_tree.specs.Rule.{agrees, allows}
use Rattle.roll_tree.specs.declared.node.Node.{Node}
use Rattle.roll_tree.specs.declared.prune.Rule.TheVariants.{Any, Agrees}
use Rattle.roll_tree.specs.declared.tree.Tree.TheInside.{Inside}
use Rattle.roll_tree.proofs.Nodes.{path_at, path_at-top, path_at-below, length-path_at, no_edge}
use Rattle.roll_tree.proofs.Rules.{IsRule}

-- a path that isn't these rows begins with them where its front does
begins_front : (to path : Rows) (row : List Cell) → path ++ row ∷ [] ≢ to → begins_with (path ++ row ∷ []) to ≡ begins_with path to
begins_front to path row apart = go (cases_lt (length path) (length to))
  where
    none : (b : Bool) → begins_with (path ++ row ∷ []) to ≡ b → length path < length to → begins_with (path ++ row ∷ []) to ≡ false
    none true e long =
        absurd (apart (sym (begins_is (path ++ row ∷ []) to e ∙ take_all (length to) (path ++ row ∷ []) (omega (arith, long, length-append path (row ∷ []))))))
    none false e long = e

    short : (b : Bool) → begins_with path to ≡ b → length path < length to → begins_with path to ≡ false
    short true e long = absurd (omega (arith, long, ap (λ (l : Rows). length l) (begins_is path to e), length-take (length to) path))
    short false e long = e

    go : (length path < length to) ⊎ (length to ≤ length path) → begins_with (path ++ row ∷ []) to ≡ begins_with path to
    go (inl long) = none (begins_with (path ++ row ∷ []) to) refl long ∙ sym (short (begins_with path to) refl long)
    go (inr fits) = ap (λ (l : Rows). pointwise row_eq to l) (take-append-le (length to) path (row ∷ []) fits)

-- the cell of a path one row further is the front's or the row's
get_front : (path : Rows) (row : List Cell) (place : ℕ) → place < length path → slice_get (path ++ row ∷ []) place ≡ slice_get path place
get_front path row place within =
    slice_get-get_or (path ++ row ∷ []) place [] (omega (arith, within, length-append path (row ∷ [])))
    ∙ ap Some (get_or_append_left path (row ∷ []) [] place within)
    ∙ sym (slice_get-get_or path place [] within)

get_last : (path : Rows) (row : List Cell) → slice_get (path ++ row ∷ []) (length path) ≡ Some row
get_last [] row = refl
get_last (first ∷ path) row = get_last path row

abbrev differs_from : Cell → Option Cell → Bool
differs_from cell there = option_map_or (λ c. not (cell_eq c cell)) there false

agrees_not : (place : ℕ) (cell : Cell) (row : List Cell) → not (differs_from cell (slice_get row place)) ≡ agrees place cell row
agrees_not place cell row = go (slice_get row place)
  where
    go : (o : Option Cell) → not (differs_from cell o) ≡ option_map_or (λ c. cell_eq c cell) o true
    go None = refl
    go (Some c) = not-not (cell_eq c cell)

-- a path has no other cell where its front has none and the rule allows its last row
other_front : (base frame player place end : ℕ) (cell : Cell) (path : Rows) (row : List Cell) → base ≤ frame → player ≡ place + 1 → length path + base + 1 ≡ end → not (has_other player (frame - base) cell (path ++ row ∷ [])) ≡ (not (has_other player (frame - base) cell path) && allows (Agrees place frame cell) end row)
other_front base frame player place end cell path row low is deep = go (cases_lt (frame - base) (length path)) (cases_eq (frame - base) (length path))
  where
    named : (rows : Rows) → has_other player (frame - base) cell rows ≡ differs_from cell (cell_in rows (frame - base) place)
    named rows = there (eqb player 0) refl
      where
        there : (b : Bool) → eqb player 0 ≡ b → has_other player (frame - base) cell rows ≡ differs_from cell (cell_in rows (frame - base) place)
        there true none = absurd (omega (arith, is, eqb-true player 0 none))
        there false e =
            let less : player - 1 ≡ place = omega (arith, is) in
            ap (λ (b : Bool). differs_from cell (cond b None (cell_in rows (frame - base) (player - 1)))) e
            ∙ ap (λ (k : ℕ). differs_from cell (cell_in rows (frame - base) k)) less

    elsewhere : (frame - base ≢ length path) → allows (Agrees place frame cell) end row ≡ true
    elsewhere apart = at (eqb end (frame + 1)) refl
      where
        at : (b : Bool) → eqb end (frame + 1) ≡ b → allows (Agrees place frame cell) end row ≡ true
        at true e = absurd (apart (omega (arith, low, deep, eqb-true end (frame + 1) e)))
        at false e = ap (λ (b : Bool). not b || agrees place cell row) e

    same : cell_in (path ++ row ∷ []) (frame - base) place ≡ cell_in path (frame - base) place → frame - base ≢ length path → not (has_other player (frame - base) cell (path ++ row ∷ [])) ≡ (not (has_other player (frame - base) cell path) && allows (Agrees place frame cell) end row)
    same e apart =
        ap not (named (path ++ row ∷ []) ∙ ap (differs_from cell) e ∙ sym (named path))
        ∙ sym (ap (λ (b : Bool). not (has_other player (frame - base) cell path) && b) (elsewhere apart) ∙ and-true (not (has_other player (frame - base) cell path)))

    go : (frame - base < length path) ⊎ (length path ≤ frame - base) → (frame - base ≡ length path) ⊎ (frame - base ≡ length path → ⊥) → not (has_other player (frame - base) cell (path ++ row ∷ [])) ≡ (not (has_other player (frame - base) cell path) && allows (Agrees place frame cell) end row)
    go (inl within) c = same (ap (λ (r : Option (List Cell)). cell_of_row r place) (get_front path row (frame - base) within)) (λ e. absurd (omega (arith, within, e)))
    go (inr past) (inl e) =
        let whole : cell_in (path ++ row ∷ []) (frame - base) place ≡ slice_get row place = ap (λ (k : ℕ). cell_in (path ++ row ∷ []) k place) e ∙ ap (λ (r : Option (List Cell)). cell_of_row r place) (get_last path row) in
        let front : cell_in path (frame - base) place ≡ None = ap (λ (r : Option (List Cell)). cell_of_row r place) (slice_get_past path (frame - base) past) in
        let last : eqb end (frame + 1) ≡ true = eq-eqb end (frame + 1) (omega (arith, low, deep, e)) in
        ap not (named (path ++ row ∷ []) ∙ ap (differs_from cell) whole)
        ∙ agrees_not place cell row
        ∙ sym (ap (λ (b : Bool). not b && allows (Agrees place frame cell) end row) (named path ∙ ap (differs_from cell) front)
        ∙ ap (λ (b : Bool). not b || agrees place cell row) last)
    go (inr past) (inr apart) =
        same (ap (λ (r : Option (List Cell)). cell_of_row r place) (slice_get_past (path ++ row ∷ []) (frame - base) (omega (arith, past, apart, length-append path (row ∷ [])))
        ∙ sym (slice_get_past path (frame - base) past))) apart

take_none : (n : ℕ) → let none : Rows = [] in take n none ≡ none
take_none zero = refl
take_none (suc n) = refl

-- no rows have another cell
other_none : (player place : ℕ) (cell : Cell) → has_other player place cell [] ≡ false
other_none player place cell = go (eqb player 0)
  where
    go : (b : Bool) → option_map_or (λ c. not (cell_eq c cell)) (cond b None (cell_in [] place (player - 1))) false ≡ false
    go true = refl
    go false = refl

module _ {S : Type 0} (t : Inside S) (tree : IsTree t) where
  -- the test by which `cut` prunes
  pub cut_rule : (first : Node S) (frame player place : ℕ) (cell : Cell) → node_at t.nodes.slots t.root ≡ Some first → first.end ≡ t.base → t.base ≤ frame → player ≡ place + 1 → IsRule t t.root first (Agrees place frame cell) (λ s. not (has_other player (frame - t.base) cell s.path))
  cut_rule first frame player place cell first_is end low is = record {
    first_is = first_is;
    alive = ap (λ (p : Rows). not (has_other player (frame - t.base) cell p)) (path_at-top t.base t.nodes.slots first end) ∙ ap not (other_none player (frame - t.base) cell);
    lone = λ name node found differs none. absurd (differs (tree.distinct name t.root node first found first_is
        (path_at-top t.base t.nodes.slots node (no_edge t.base t.nodes.slots tree.links name node found none) ∙ sym (path_at-top t.base t.nodes.slots first end))));
    step = λ name node found differs up.
        let long = length-path_at t.base t.nodes.slots tree.links up.edge.parent up.parent up.parent_is in
        ap (λ (p : Rows). not (has_other player (frame - t.base) cell p)) (path_at-below t.base t.nodes.slots tree.links node up)
        ∙ other_front t.base frame player place node.end cell (path_at t.base t.nodes.slots up.parent) up.edge.row low is (omega (arith, long, up.next));
  }

  -- and that by which `settle` does
  pub settle_rule : (top : ℕ) (first : Node S) → node_at t.nodes.slots top ≡ Some first → IsRule t top first Any (λ s. begins_with s.path (path_at t.base t.nodes.slots first))
  settle_rule top first first_is = record {
    first_is = first_is;
    alive = begins (path_at t.base t.nodes.slots first) (path_at t.base t.nodes.slots first) (sym (take_all (length (path_at t.base t.nodes.slots first)) (path_at t.base t.nodes.slots first) (omega arith)));
    lone = λ name node found differs none. empty name node found differs (path_at-top t.base t.nodes.slots node (no_edge t.base t.nodes.slots tree.links name node found none)) (begins_with (path_at t.base t.nodes.slots node) (path_at t.base t.nodes.slots first)) refl;
    step = λ name node found differs up.
        let below = path_at-below t.base t.nodes.slots tree.links node up in
        ap (λ (p : Rows). begins_with p (path_at t.base t.nodes.slots first)) below
        ∙ begins_front (path_at t.base t.nodes.slots first) (path_at t.base t.nodes.slots up.parent) up.edge.row (λ same. differs (tree.distinct name top node first found first_is (below ∙ same)))
        ∙ sym (and-true (begins_with (path_at t.base t.nodes.slots up.parent) (path_at t.base t.nodes.slots first)));
  }
    where
      empty : (name : ℕ) (node : Node S) → node_at t.nodes.slots name ≡ Some node → name ≢ top → path_at t.base t.nodes.slots node ≡ [] → (b : Bool) → begins_with (path_at t.base t.nodes.slots node) (path_at t.base t.nodes.slots first) ≡ b → begins_with (path_at t.base t.nodes.slots node) (path_at t.base t.nodes.slots first) ≡ false
      empty name node found differs bare true e =
          absurd (differs (tree.distinct name top node first found first_is (bare ∙ sym (begins_is (path_at t.base t.nodes.slots node) (path_at t.base t.nodes.slots first) e ∙ ap (λ (l : Rows). take (length (path_at t.base t.nodes.slots first)) l) bare ∙ take_none (length (path_at t.base t.nodes.slots first))))))
      empty name node found differs bare false e = e
