use Rattle.std.proofs.Common.{◌≡◌, ◌∙◌, ℕ, None, ap, subst, sym}
use Rattle.std.specs.Prelude.{option_map}
use Rattle.roll_frame.specs.declared.route.Route.{Route}
use Rattle.roll_inputs.specs.Boards.{Inputs, guess_refusal}
use Rattle.roll_session.specs.Gameless.{bare_branch, still, Bare}
use Rattle.roll_session.specs.Guessing.{guess_job_of, guessed_rows}
use Rattle.roll_session.proofs.Bares.{bare_start}
use Rattle.roll_session.proofs.Guessing.{session_guessed}
use Rattle.roll_session.proofs.gameless.Core.guess.Goals as goal

pub returns-clause-job : goal.returns-clause-job
returns-clause-job g c =
    let i = c.self.inside in
    let fine : guess_refusal i.saves.inputs c.args.player c.args.words.now c.args.until ≡ None = ap (λ (b : Inputs). guess_refusal b c.args.player c.args.words.now c.args.until) (sym c.board-board.ensures) ∙ sym c.in_default.ensures in
    let rows = c.as_slice.ensures.value ∙ c.guessed_rows-rows.ensures ∙ ap (λ (b : Inputs). guessed_rows b c.args.player c.args.words.now c.args.until) c.board-board.ensures in
    let s = c.start_along.ensures in
    subst (λ (b : Bare g.row.S.Denot). option_map (λ (r : ℕ × Route). bare_branch 0 r.1) c.start_along.result ≡ guess_job_of still b.seen c.args.player c.args.words.now c.args.until) c.self.view_is
    (bare_start i.saves c.as_slice.result.now c.start_along.result s.left s.route s.none ∙ session_guessed c.self.invariant.0 c.args.player c.args.until c.args.words.now c.as_slice.result.now fine rows)
