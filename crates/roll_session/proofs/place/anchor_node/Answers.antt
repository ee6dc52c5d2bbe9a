use Rattle.std.proofs.Common.{◌≡◌, ℕ, ◌-◌, ◌≤◌, ◌∙◌, ap, subst, arith, take}
use Rattle.std.specs.Prelude.{IsSomeAnd}
use Rattle.roll_frame.specs.Cells.{Rows}
use Rattle.roll_frame.specs.Paths.{longest}
use Rattle.roll_frame.proofs.Beginnings.{longest_within}
use Rattle.roll_inputs.specs.Boards.{Inputs}
use Rattle.roll_tree.specs.SavedStates.{state_named, paths_of}
use Rattle.roll_session.specs.Grafting.{ahead_of, anchor_of}
use Rattle.roll_session.proofs.Placed.{found_at, kept_front}
use Rattle.roll_session.proofs.place.anchor_node.Goals as goal

pub returns : goal.returns
returns g c =
    let saves = c.args.saves.now in
    let route = c.args.route.now in
    let R : Rows = ahead_of saves.inputs route in
    let ps = paths_of saves.tree in
    let k : ℕ = anchor_of saves.inputs route - saves.inputs.settled in
    let low : k ≤ longest ps R = omega (arith, c.requires.kept) in
    let there = kept_front saves.tree R k (rw c.tree-tree.ensures at c.laws-2.ensures.rooted) (rw c.tree-tree.ensures at c.laws-2.ensures.closed) (rw c.tree-tree.ensures at c.laws-2.ensures.named) low in
    let found = found_at ps R k (omega (arith, low, longest_within ps R)) there in
    let part : take (c.anchor_of.result - c.settled.result) c.as_slice.result.now ≡ take k R =
    ap (take (c.anchor_of.result - c.settled.result)) (c.as_slice.ensures.value ∙ c.requires.place.ahead) ∙ ap (λ n. take (n - c.settled.result) R) c.anchor_of.ensures ∙ ap (λ n. take (anchor_of saves.inputs route - n) R) (c.settled.ensures ∙ ap (λ (i : Inputs). i.settled) c.board.ensures) in
    let node = subst (λ (q : Rows). IsSomeAnd (state_named saves.tree c.longest-node.result.0) (λ u. u.path ≡ take (longest ps q) q)) part (rw c.tree-tree.ensures at c.longest-node.ensures.node) in
    subst (λ (q : Rows). IsSomeAnd (state_named saves.tree c.longest-node.result.0) (λ u. u.path ≡ q)) found node
