use Rattle.std.proofs.Common.{◌≡◌, ◌-◌, ◌∙◌, ◌++◌, ap, sym, subst, arith, take}
use Rattle.std.specs.Prelude.{IsSomeAnd}
use Rattle.roll_frame.specs.declared.route.Route.{Route}
use Rattle.roll_frame.specs.Cells.{Rows}
use Rattle.roll_frame.specs.Grafts.{same_value}
use Rattle.roll_frame.specs.Paths.{run}
use Rattle.roll_frame.specs.Timeline.{timeline}
use Rattle.roll_tree.specs.SavedStates.{state_named}
use Rattle.roll_session.specs.Grafting.{ahead_of, anchor_of, start_of}
use Rattle.roll_session.proofs.Holding.{of_held}
use Rattle.roll_session.proofs.Placed.{same_is}
use Rattle.roll_session.proofs.Rolling.{snapshot_is, some_is}
use Rattle.roll_session.proofs.place.is_same_there.Goals as goal

pub returns : goal.returns
returns g c = λ opening values.
    let saves = c.args.saves.now in
    let route = c.args.branch.now.route in
    let value = g.G.RawGame.snapshot_value in
    let step = g.G.Game.step in
    let T : Rows = timeline saves.inputs.players saves.inputs.settled in
    let q : Rows = take (anchor_of saves.inputs route - saves.inputs.settled) (ahead_of saves.inputs route) in
    let there = subst (λ (r : Route). IsSomeAnd (state_named saves.tree c.anchor_node-node.result) (λ s. s.path ≡ take (anchor_of saves.inputs r - saves.inputs.settled) (ahead_of saves.inputs r))) c.requires.route c.anchor_node-node.ensures in
    let s = some_is (state_named saves.tree c.anchor_node-node.result) (λ s. s.path ≡ q) there in
    let saved : value c.get.result.now ≡ run step opening (T ++ q) =
    ap value (sym (snapshot_is (state_named saves.tree c.anchor_node-node.result) s.0 c.get.result.now (rw c.tree.ensures at c.get.ensures) s.1))
    ∙ of_held (λ u. value u.snapshot ≡ run step opening (T ++ u.path)) saves.tree c.anchor_node-node.result s.0 values s.1 ∙ ap (λ (r : Rows). run step opening (T ++ r)) s.2 in
    let anchor : c.anchor_of.result ≡ anchor_of saves.inputs route = subst (λ (r : Route). c.anchor_of.result ≡ anchor_of saves.inputs r) c.requires.route c.anchor_of.ensures in
    let start : c.start_of.result ≡ start_of route = c.start_of.ensures.start ∙ ap start_of c.requires.route in
    let count : c.anchor_of.result - c.start_of.result ≡ anchor_of saves.inputs route - start_of route = omega (arith, anchor, start) in
    let run_is : value c.state.result.now ≡ run step c.args.branch.now.from (take (anchor_of saves.inputs route - start_of route) route.rows.items) = subst (λ n. value c.state.result.now ≡ run step c.args.branch.now.from (take n route.rows.items)) count c.state.ensures in
    subst (λ v. c.same.result ≡ same_value v (run step opening (T ++ q))) run_is
    (subst (λ v. c.same.result ≡ same_value (value c.state.result.now) v) saved (same_is c.same.result (value c.state.result.now) (value c.get.result.now) c.same.ensures.0 c.same.ensures.1))
