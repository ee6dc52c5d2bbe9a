use Rattle.std.proofs.Common.{◌≡◌, ◌+◌, ◌-◌, ◌≤◌, ◌∙◌, List, ap, arith, length, map, refl, subst, sym}
use Rattle.roll_frame.specs.Paths.{longest}
use Rattle.roll_frame.specs.declared.limits.TheConstants.{TREE_LIMIT}
use Rattle.roll_tree.specs.SavedStates.{Saved, SavedStates}
use Rattle.roll_session.specs.Saves.{rows_to}
use Rattle.roll_session.proofs.Steps.{deepest_is, longest_there, time_is}
use Rattle.roll_session.proofs.Ways.{stands}
use Rattle.roll_session.proofs.saves.Saves.way_to.Goals as goal

pub returns-clause-going : goal.returns-clause-going
returns-clause-going g c =
    let i = c.self.inside in
    let t = c.extend_time.new.tree in
    let from = rw (← c.self.view_is) at c.requires.from in
    let near = rw (← c.self.view_is) at c.requires.near in
    let fits = rw (← c.self.view_is) at c.requires.fits in
    let base : t.base ≡ i.board.settled = (rw c.extend_time.ensures.same refl) ∙ c.self.invariant.base in
    let told = c.extend_time.ensures.told in
    let far = c.extend_time.ensures.far in
    let rows = time_is t i.board.players i.board.settled c.args.to base told from far in
    let states : t.states ≡ i.tree.states = ap (λ (x : SavedStates g.row.S.Denot). x.states) c.extend_time.ensures.same in
    stands (record { inputs = i.board; tree = t; room = i.past.room }) (record { at = c.deepest-at.result.0; frame = c.deepest-at.result.1; to = c.args.to })
    base near far (c.deepest-at.ensures.length ∙ rw (rows, base) refl)
    (omega (arith, c.deepest-at.ensures.length, base, longest_there t i.board.players i.board.settled c.args.to base told from far))
    (deepest_is t i.board.players i.board.settled c.args.to base told from far c.deepest-at.result.0 c.deepest-at.ensures.node)
    (subst (λ (xs : List (Saved g.row.S.Denot)). length xs + (c.args.to - i.board.settled - longest (map (λ u. u.path) xs) (rows_to i.board c.args.to)) ≤ TREE_LIMIT) (sym states) fits)

pub returns-clause-from : goal.returns-clause-from
returns-clause-from g c =
    let i = c.self.inside in
    let t = c.extend_time.new.tree in
    let from = rw (← c.self.view_is) at c.requires.from in
    let base : t.base ≡ i.board.settled = (rw c.extend_time.ensures.same refl) ∙ c.self.invariant.base in
    let rows = time_is t i.board.players i.board.settled c.args.to base c.extend_time.ensures.told from c.extend_time.ensures.far in
    rw (← c.self.view_is) (c.deepest-at.ensures.length ∙ (rw (rows, c.extend_time.ensures.same, c.self.invariant.base) refl))
