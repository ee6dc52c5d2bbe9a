use Rattle.std.proofs.Common.{◌≡◌, ◌+◌, ◌-◌, ◌∙◌, ◌++◌, ◌≤◌, ap, sym, refl, arith, List, length, map, filter, drop, min, take}
use Rattle.roll_frame.specs.Cells.{Rows}
use Rattle.roll_frame.specs.Paths.{begins_with, longest}
use Rattle.roll_frame.specs.Timeline.{front}
use Rattle.roll_tree.specs.SavedStates.{SavedStates, Saved, later, paths_of}
use Rattle.roll_frame.proofs.Timelines.{length_timeline}
use Rattle.roll_session.specs.Saves.{Standing, rows_to, settled_by, settling}
use Rattle.roll_session.specs.Standing.{rows_from}
use Rattle.roll_session.proofs.Rows.{length-rows_from, wide-rows_from}
use Rattle.roll_session.proofs.Steps.{deepest_told, none_settled, nothing_settles, settled_at, settled_step}
use Rattle.roll_session.proofs.saves.Saves.settle.Goals as goal

pub slice_bounds-append-end : goal.slice_bounds-append-end
slice_bounds-append-end g c =
    let i = c.self.inside in
    let low = rw (← c.self.view_is) at c.requires in
    let from : i.board.settled ≤ c.min-to.result = omega (arith, low, c.min-to.ensures, c.front.ensures, c.frame.ensures, c.laws.ensures.reached) in
    let n = longest (paths_of i.tree) (rows_to i.board c.min-to.result) in
    let deep = deepest_told i.board.players i.board.settled c.min-to.result i.tree c.extend_time.new.tree c.deepest-node.result.0 c.deepest-node.result.1 c.self.invariant.base c.extend_time.ensures.same c.extend_time.ensures.told from c.extend_time.ensures.far c.deepest-node.ensures.node c.deepest-node.ensures.length in
    let count : c.deepest-node.result.1 - c.settled-base.result ≡ n = omega (arith, deep.end_is, c.settled-base.ensures) in
    let rows : take (c.deepest-node.result.1 - c.settled-base.result) c.time.result.now ≡ rows_from i.board.players i.board.settled n = ap (λ m. take m c.time.result.now) count ∙ (ap (take n) c.time.ensures.value ∙ deep.rows) in
    let long = ap length rows ∙ length-rows_from i.board.players i.board.settled n in
    count ∙ sym long

pub append-requires-clause-room : goal.append-requires-clause-room
append-requires-clause-room g c =
    let i = c.self.inside in
    let low = rw (← c.self.view_is) at c.requires in
    let from : i.board.settled ≤ c.min-to.result = omega (arith, low, c.min-to.ensures, c.front.ensures, c.frame.ensures, c.laws.ensures.reached) in
    let n = longest (paths_of i.tree) (rows_to i.board c.min-to.result) in
    let deep = deepest_told i.board.players i.board.settled c.min-to.result i.tree c.extend_time.new.tree c.deepest-node.result.0 c.deepest-node.result.1 c.self.invariant.base c.extend_time.ensures.same c.extend_time.ensures.told from c.extend_time.ensures.far c.deepest-node.ensures.node c.deepest-node.ensures.length in
    let count : c.deepest-node.result.1 - c.settled-base.result ≡ n = omega (arith, deep.end_is, c.settled-base.ensures) in
    let rows : take (c.deepest-node.result.1 - c.settled-base.result) c.time.result.now ≡ rows_from i.board.players i.board.settled n = ap (λ m. take m c.time.result.now) count ∙ (ap (take n) c.time.ensures.value ∙ deep.rows) in
    let long = ap length rows ∙ length-rows_from i.board.players i.board.settled n in
    let past = ap length c.self.invariant.past ∙ length_timeline i.board.players i.board.settled in
    omega (arith, past, long, deep.within, c.self.invariant.room, c.min-to.ensures, c.front.ensures, c.frame.ensures)

pub append-requires-clause-wide : goal.append-requires-clause-wide
append-requires-clause-wide g c =
    let i = c.self.inside in
    let low = rw (← c.self.view_is) at c.requires in
    let from : i.board.settled ≤ c.min-to.result = omega (arith, low, c.min-to.ensures, c.front.ensures, c.frame.ensures, c.laws.ensures.reached) in
    let n = longest (paths_of i.tree) (rows_to i.board c.min-to.result) in
    let deep = deepest_told i.board.players i.board.settled c.min-to.result i.tree c.extend_time.new.tree c.deepest-node.result.0 c.deepest-node.result.1 c.self.invariant.base c.extend_time.ensures.same c.extend_time.ensures.told from c.extend_time.ensures.far c.deepest-node.ensures.node c.deepest-node.ensures.length in
    let count : c.deepest-node.result.1 - c.settled-base.result ≡ n = omega (arith, deep.end_is, c.settled-base.ensures) in
    let rows : take (c.deepest-node.result.1 - c.settled-base.result) c.time.result.now ≡ rows_from i.board.players i.board.settled n = ap (λ m. take m c.time.result.now) count ∙ (ap (take n) c.time.ensures.value ∙ deep.rows) in
    rw (rows, c.self.invariant.wide) (wide-rows_from i.board.players i.board.settled n)

pub settle-requires-clause-confirmed : goal.settle-requires-clause-confirmed
settle-requires-clause-confirmed g c =
    let i = c.self.inside in
    let low = rw (← c.self.view_is) at c.requires in
    let from : i.board.settled ≤ c.min-to.result = omega (arith, low, c.min-to.ensures, c.front.ensures, c.frame.ensures, c.laws.ensures.reached) in
    let n = longest (paths_of i.tree) (rows_to i.board c.min-to.result) in
    let deep = deepest_told i.board.players i.board.settled c.min-to.result i.tree c.extend_time.new.tree c.deepest-node.result.0 c.deepest-node.result.1 c.self.invariant.base c.extend_time.ensures.same c.extend_time.ensures.told from c.extend_time.ensures.far c.deepest-node.ensures.node c.deepest-node.ensures.length in
    let to : c.min-to.result ≡ min (front i.board.players) i.board.frame = c.min-to.ensures ∙ rw (c.front.ensures, c.frame.ensures) refl in
    omega (arith, deep.end_is, deep.within, to)

pub invariant_of-self : goal.invariant_of-self
invariant_of-self g c =
    let i = c.self.inside in
    let low = rw (← c.self.view_is) at c.requires in
    let from : i.board.settled ≤ c.min-to.result = omega (arith, low, c.min-to.ensures, c.front.ensures, c.frame.ensures, c.laws.ensures.reached) in
    let n = longest (paths_of i.tree) (rows_to i.board c.min-to.result) in
    let deep = deepest_told i.board.players i.board.settled c.min-to.result i.tree c.extend_time.new.tree c.deepest-node.result.0 c.deepest-node.result.1 c.self.invariant.base c.extend_time.ensures.same c.extend_time.ensures.told from c.extend_time.ensures.far c.deepest-node.ensures.node c.deepest-node.ensures.length in
    let count : c.deepest-node.result.1 - c.settled-base.result ≡ n = omega (arith, deep.end_is, c.settled-base.ensures) in
    let rows : take (c.deepest-node.result.1 - c.settled-base.result) c.time.result.now ≡ rows_from i.board.players i.board.settled n = ap (λ m. take m c.time.result.now) count ∙ (ap (take n) c.time.ensures.value ∙ deep.rows) in
    let long = ap length rows ∙ length-rows_from i.board.players i.board.settled n in
    let k = length c.extend_time.new.tree.time in
    let long' = length-rows_from i.board.players i.board.settled n in
    let base : c.extend_time.new.tree.base ≡ i.board.settled = ap (λ (t : SavedStates g.row.S.Denot). t.base) c.extend_time.ensures.same ∙ c.self.invariant.base in
    let tree = settled_at c.extend_time.new.tree c.settle_at.new.self c.deepest-node.result.0 (rows_from i.board.players i.board.settled n) deep.path c.settle_at.ensures in
    settled_step i (record { board = c.settle.new.self; past = c.append.new.self; tree = c.settle_at.new.self }) n k c.self.invariant
    (c.settle.ensures ∙ ap (λ m. record i.board { settled = m }) deep.end_is)
    (c.append.ensures ∙ ap (λ (q : Rows). record i.past { rows = i.past.rows ++ q }) rows)
    (ap (λ (t : SavedStates g.row.S.Denot). t.base) tree ∙ omega (arith, base, long'))
    (ap (λ (t : SavedStates g.row.S.Denot). t.time) tree ∙ (ap (λ m. drop m c.extend_time.new.tree.time) long' ∙ ap (drop n) c.extend_time.ensures.told))

pub returns-clause-inputs : goal.returns-clause-inputs
returns-clause-inputs g c =
    let i = c.self.inside in
    let low = rw (← c.self.view_is) at c.requires in
    let from : i.board.settled ≤ c.min-to.result = omega (arith, low, c.min-to.ensures, c.front.ensures, c.frame.ensures, c.laws.ensures.reached) in
    let n = longest (paths_of i.tree) (rows_to i.board c.min-to.result) in
    let deep = deepest_told i.board.players i.board.settled c.min-to.result i.tree c.extend_time.new.tree c.deepest-node.result.0 c.deepest-node.result.1 c.self.invariant.base c.extend_time.ensures.same c.extend_time.ensures.told from c.extend_time.ensures.far c.deepest-node.ensures.node c.deepest-node.ensures.length in
    let to : c.min-to.result ≡ min (front i.board.players) i.board.frame = c.min-to.ensures ∙ rw (c.front.ensures, c.frame.ensures) refl in
    rw (← c.self.view_is) (c.settle.ensures ∙ (ap (λ k. record i.board { settled = k }) deep.end_is ∙ ap (λ k. record i.board { settled = i.board.settled + longest (paths_of i.tree) (rows_to i.board k) }) to))

pub returns-clause-states : goal.returns-clause-states
returns-clause-states g c =
    let i = c.self.inside in
    let low = rw (← c.self.view_is) at c.requires in
    let from : i.board.settled ≤ c.min-to.result = omega (arith, low, c.min-to.ensures, c.front.ensures, c.frame.ensures, c.laws.ensures.reached) in
    let n = longest (paths_of i.tree) (rows_to i.board c.min-to.result) in
    let deep = deepest_told i.board.players i.board.settled c.min-to.result i.tree c.extend_time.new.tree c.deepest-node.result.0 c.deepest-node.result.1 c.self.invariant.base c.extend_time.ensures.same c.extend_time.ensures.told from c.extend_time.ensures.far c.deepest-node.ensures.node c.deepest-node.ensures.length in
    let to : c.min-to.result ≡ min (front i.board.players) i.board.frame = c.min-to.ensures ∙ rw (c.front.ensures, c.frame.ensures) refl in
    let long' = length-rows_from i.board.players i.board.settled n in
    let tree = settled_at c.extend_time.new.tree c.settle_at.new.self c.deepest-node.result.0 (rows_from i.board.players i.board.settled n) deep.path c.settle_at.ensures in
    let same = ap (λ (t : SavedStates g.row.S.Denot). t.states) c.extend_time.ensures.same in
    let states = i.tree.states in
    rw (← c.self.view_is)
    (ap (λ (t : SavedStates g.row.S.Denot). t.states) tree
    ∙ (ap (λ (ss : List (Saved g.row.S.Denot)). map (later (length (rows_from i.board.players i.board.settled n))) (filter (λ (s : Saved g.row.S.Denot). begins_with s.path (rows_from i.board.players i.board.settled n)) ss)) same
    ∙ (ap (λ m. map (later m) (filter (λ (s : Saved g.row.S.Denot). begins_with s.path (rows_from i.board.players i.board.settled n)) states)) long'
    ∙ ap (λ m. map (later (longest (paths_of i.tree) (rows_to i.board m))) (filter (λ (s : Saved g.row.S.Denot). begins_with s.path (rows_from i.board.players i.board.settled (longest (paths_of i.tree) (rows_to i.board m)))) states)) to)))

pub returns-then-to-base-clause-inputs : goal.returns-then-to-base-clause-inputs
returns-then-to-base-clause-inputs g c =
    let i = c.self.inside in
    let st : Standing g.row.S.Denot = record { inputs = i.board; tree = i.tree; room = i.past.room } in
    let end : min (front i.board.players) i.board.frame ≡ i.board.settled = sym (c.min-to.ensures ∙ rw (c.front.ensures, c.frame.ensures) refl) ∙ (c.if-to-base.true ∙ c.settled-base.ensures) in
    let more : i.board.settled ≡ i.board.settled + settling st = omega (arith, nothing_settles st end) in
    rw (← c.self.view_is) (ap (λ n. record i.board { settled = n }) more)

pub returns-then-to-base-clause-states : goal.returns-then-to-base-clause-states
returns-then-to-base-clause-states g c =
    let i = c.self.inside in
    let st : Standing g.row.S.Denot = record { inputs = i.board; tree = i.tree; room = i.past.room } in
    let end : min (front i.board.players) i.board.frame ≡ i.board.settled = sym (c.min-to.ensures ∙ rw (c.front.ensures, c.frame.ensures) refl) ∙ (c.if-to-base.true ∙ c.settled-base.ensures) in
    rw (← c.self.view_is) (sym (ap (settled_by st) (nothing_settles st end) ∙ none_settled st))
