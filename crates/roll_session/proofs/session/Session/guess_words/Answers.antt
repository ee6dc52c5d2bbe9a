use Rattle.std.proofs.Common.{◌≡◌, ◌∙◌, None, ap, subst, sym}
use Rattle.std.specs.Prelude.{IfOk}
use Rattle.roll_frame.specs.Core.{Core}
use Rattle.roll_inputs.specs.Boards.{Inputs}
use Rattle.roll_inputs.specs.Foretold.{foretold_until_refusal}
use Rattle.roll_session.specs.Foretold.{foretold_rows, words_job, words_job_of}
use Rattle.roll_session.specs.Guessing.{job_along}
use Rattle.roll_session.specs.Seen.{Seen}
use Rattle.roll_session.specs.Saves.{Standing}
use Rattle.roll_session.proofs.Foretelling.{may_foretell, session_foretold}
use Rattle.roll_session.proofs.WithGame.{made_with_game, session_of}
use Rattle.roll_session.proofs.session.Session.guess_words.Goals as goal

pub foretold_rows-rows-requires-clause-next : goal.foretold_rows-rows-requires-clause-next
foretold_rows-rows-requires-clause-next g c = (may_foretell c.board-board.result.now c.args.words.now c.args.until (sym c.foretold_refusal.ensures ∙ c.in_default.is)).next

pub foretold_rows-rows-requires-clause-from : goal.foretold_rows-rows-requires-clause-from
foretold_rows-rows-requires-clause-from g c = (may_foretell c.board-board.result.now c.args.words.now c.args.until (sym c.foretold_refusal.ensures ∙ c.in_default.is)).from

pub foretold_rows-rows-requires-clause-near : goal.foretold_rows-rows-requires-clause-near
foretold_rows-rows-requires-clause-near g c = (may_foretell c.board-board.result.now c.args.words.now c.args.until (sym c.foretold_refusal.ensures ∙ c.in_default.is)).near

pub returns-clause-job : goal.returns-clause-job
returns-clause-job g c =
    let core = c.self.inside.core in
    let l = c.laws.ensures in
    let s = session_of core c.self.invariant l.log l.inputs l.kept in
    let board = c.board-board.ensures ∙ ap (λ (u : Standing _). u.inputs) c.saves-saves.ensures in
    let fine : foretold_until_refusal core.saves.inputs c.args.words.now c.args.until ≡ None = rw board at (sym c.foretold_refusal.ensures ∙ c.in_default.is) in
    let rows = c.as_slice.ensures.value ∙ c.foretold_rows-rows.ensures ∙ ap (λ (b : Inputs). foretold_rows b c.args.words.now c.args.until) board in
    let is = subst (λ (k : Core). job_along g.G.Game.step (g.G.RawGame.snapshot_value c.self.inside.opening) core.saves c.as_slice.result.now ≡ words_job (record { opening = g.G.RawGame.snapshot_value c.self.inside.opening; step = g.G.Game.step }) k c.args.words.now c.args.until) (sym l.log.core) (session_foretold s c.args.words.now c.args.until c.as_slice.result.now fine rows) in
    subst (λ (t : Seen). IfOk c.job_along.result (λ job. job ≡ words_job_of g.G.Game.step t c.args.words.now c.args.until)) c.self.view_is
    (made_with_game core c.self.invariant l.log l.inputs l.kept c.saves-saves.result.now c.saves-saves.ensures c.as_slice.result.now _ c.job_along.result is c.job_along.ensures.job)
