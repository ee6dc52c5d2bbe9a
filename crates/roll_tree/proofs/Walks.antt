-- A walk from a node up to the root, which collects its rows.
use Rattle.std.proofs.Common.{◌≡◌, ℕ, ◌+◌, List, [], ◌∷◌, ◌++◌, length, drop, Option, Some, None, sym, ap, ◌∙◌, arith, append-nil, append_assoc, length-append}
use Rattle.std.specs.Prelude.{reverse}
use Rattle.std.specs.List.{refill}
use Rattle.std.proofs.lemmas.List.{reverse-append, take-append-le, take_all}
use Rattle.roll_frame.specs.declared.row.Cell.{Cell}
use Rattle.roll_frame.specs.Cells.{Rows}
use Rattle.roll_tree.specs.Layout.{node_at, AreLinked}
use Rattle.roll_tree.specs.declared.node.Edge.{Edge}
use Rattle.roll_tree.specs.declared.node.Node.{Node}
use Rattle.roll_tree.proofs.Nodes.{path_at, path_at-below, path_at-top, no_edge, with_edge}

-- rows that take the place of as many are what is there then
pub refilled : (old new : Rows) → length new ≡ length old → refill (length old) old new ≡ new
refilled old new same =
    take-append-le (length old) new (drop (length new) old) (omega (arith, same))
    ∙ take_all (length old) new (omega (arith, same))

module _ {S : Type 0} where
  pub record IsWalk (base : ℕ) (slots : List (Option (Node S))) (start at : ℕ) (rows : Rows) : Type 0 where
    pub from : Node S
    pub here : Node S
    pub from_is : node_at slots start ≡ Some from
    pub here_is : node_at slots at ≡ Some here
    pub joined : path_at base slots from ≡ path_at base slots here ++ reverse rows
    pub counted : length rows + here.end ≡ from.end

  pub IsWalk-start : (base : ℕ) (slots : List (Option (Node S))) (start : ℕ) (node : Node S) → node_at slots start ≡ Some node → IsWalk base slots start start []
  IsWalk-start base slots start node found = record { from = node; here = node; from_is = found; here_is = found; joined = sym (append-nil (path_at base slots node)); counted = omega arith }

  -- a row further up
  pub IsWalk-more : (base : ℕ) (slots : List (Option (Node S))) (start at : ℕ) (rows : Rows) (e : Edge) → AreLinked base slots → (w : IsWalk base slots start at rows) → w.here.edge ≡ Some e → IsWalk base slots start e.parent (rows ++ e.row ∷ [])
  IsWalk-more base slots start at rows e links w is =
      let up = with_edge base slots links at w.here e w.here_is is in
      let row = ap (λ (x : Edge). x.row) up.1 in
      let parent = ap (λ (x : Edge). x.parent) up.1 in
      record {
        from = w.from;
        here = up.0.parent;
        from_is = w.from_is;
        here_is = ap (node_at slots) (sym parent) ∙ up.0.parent_is;
        joined =
            w.joined
            ∙ ap (λ (r : Rows). r ++ reverse rows) (path_at-below base slots links w.here up.0)
            ∙ ap (λ (r : List Cell). (path_at base slots up.0.parent ++ r ∷ []) ++ reverse rows) row
            ∙ append_assoc (path_at base slots up.0.parent) (e.row ∷ []) (reverse rows)
            ∙ ap (λ (r : Rows). path_at base slots up.0.parent ++ r) (sym (reverse-append rows (e.row ∷ [])));
        counted = omega (arith, w.counted, up.0.next, length-append rows (e.row ∷ []));
      }

  -- at the root
  pub IsWalk-done : (base : ℕ) (slots : List (Option (Node S))) (start at : ℕ) (rows : Rows) → AreLinked base slots → (w : IsWalk base slots start at rows) → w.here.edge ≡ None → path_at base slots w.from ≡ reverse rows
  IsWalk-done base slots start at rows links w none =
      w.joined ∙ ap (λ (r : Rows). r ++ reverse rows) (path_at-top base slots w.here (no_edge base slots links at w.here w.here_is none))
