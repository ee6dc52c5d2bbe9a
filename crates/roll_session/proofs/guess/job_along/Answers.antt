use Rattle.std.proofs.Common.{◌≡◌, ◌++◌, ap, take, sym, ◌∙◌}
use Rattle.roll_frame.specs.Cells.{Rows}
use Rattle.roll_frame.specs.Paths.{run}
use Rattle.roll_frame.specs.Timeline.{timeline}
use Rattle.roll_tree.specs.SavedStates.{state_named}
use Rattle.roll_session.specs.Guessing.{kept_of}
use Rattle.roll_session.specs.Saves.{HaveValues}
use Rattle.roll_session.proofs.Guessing.{made_along, made_copied}
use Rattle.roll_session.proofs.Holding.{of_held}
use Rattle.roll_session.proofs.Rolling.{snapshot_is, some_is}
use Rattle.roll_session.proofs.guess.job_along.Goals as goal

pub returns-clause-job : goal.returns-clause-job
returns-clause-job g c =
    let saves = c.args.saves.now in
    let R : Rows = c.args.rows.now in
    let T : Rows = timeline saves.inputs.players saves.inputs.settled in
    let value = g.G.RawGame.snapshot_value in
    let step = g.G.Game.step in
    let s = some_is (state_named saves.tree c.in-Some.node) (λ s. s.path ≡ take (kept_of saves R) R) c.in-Some.ensures.node in
    made_along saves R c.in-Some.route (value c.get.result.now) c.in-Some.ensures.route c.in-Some.ensures.left c.job_of.result c.job_of.ensures.none c.job_of.ensures.job step (λ opening. HaveValues value step opening T saves.tree.states) (λ opening values.
    ap value (sym (snapshot_is (state_named saves.tree c.in-Some.node) s.0 c.get.result.now (rw c.tree.ensures at c.get.ensures) s.1))
    ∙ of_held (λ u. value u.snapshot ≡ run step opening (T ++ u.path)) saves.tree c.in-Some.node s.0 values s.1
    ∙ ap (λ (r : Rows). run step opening (T ++ r)) s.2)

pub returns-clause-counts : goal.returns-clause-counts
returns-clause-counts g c =
    made_copied c.args.saves.now c.args.rows.now c.in-Some.route (g.G.RawGame.snapshot_value c.get.result.now) c.in-Some.ensures.route c.in-Some.ensures.left c.job_of.result c.job_of.ensures.none c.job_of.ensures.job _ _ c.job_of.ensures.copied c.job_of.ensures.uncopied
