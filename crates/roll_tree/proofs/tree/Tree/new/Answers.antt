use Rattle.std.proofs.Common.{◌≡◌, ℕ, List, [], ◌∷◌, ◌++◌, Option, None, refl, ap, ◌∙◌, arith, get_or}
use Rattle.roll_tree.specs.Layout.{node_at}
use Rattle.roll_tree.specs.declared.node.Node.{Node}
use Rattle.roll_tree.specs.declared.tree.Tree.TheInside.{Inside}
use Rattle.roll_tree.proofs.Grown.{new_tree}
use Rattle.roll_tree.proofs.tree.Tree.new.Goals as goal

get_nothing : {A : Type 0} (n : ℕ) (d : A) → get_or [] n d ≡ d
get_nothing n d = refl

pub invariant_of-result : goal.invariant_of-result
invariant_of-result g c =
    let after : Inside g.row.S.Denot = record { base = c.args.base; root = c.insert_reserved-root.result; nodes = c.insert_reserved-root.new.self; order = c.push_reserved.new.self; time = c.new.result; tip = c.args.base } in
    let node : Node g.row.S.Denot = record { edge = None; end = c.args.base; snapshot = c.args.root } in
    let pushed = c.push_reserved.ensures.items in
    let empty = ap (λ (l : List (Option (Node g.row.S.Denot))). l) c.in-Ok.ensures.empty in
    new_tree after node c.insert_reserved-root.ensures.updates.changed
    (λ other differs. c.insert_reserved-root.ensures.updates.others other differs ∙ ap (λ (l : List (Option (Node g.row.S.Denot))). node_at l other) empty ∙ get_nothing other None)
    refl refl
    (pushed ∙ ap (λ (l : List ℕ). l ++ c.insert_reserved-root.result ∷ []) c.in-Ok-with_capacity.ensures.items)
    (c.insert_reserved-root.ensures.len ∙ rw empty refl)
    (omega (arith, c.insert_reserved-root.ensures.capacity, c.in-Ok.ensures.capacity))
    (omega (arith, c.push_reserved.ensures.capacity, c.in-Ok-with_capacity.ensures.capacity))
    (omega arith)
