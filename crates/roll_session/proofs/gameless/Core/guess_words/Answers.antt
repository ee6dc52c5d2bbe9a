use Rattle.std.proofs.Common.{◌≡◌, ◌∙◌, ℕ, None, ap, subst, sym}
use Rattle.std.specs.Prelude.{option_map}
use Rattle.roll_frame.specs.declared.route.Route.{Route}
use Rattle.roll_inputs.specs.Boards.{Inputs}
use Rattle.roll_inputs.specs.Foretold.{foretold_until_refusal}
use Rattle.roll_session.specs.Foretold.{foretold_rows, words_job_of}
use Rattle.roll_session.specs.Gameless.{bare_branch, still, Bare}
use Rattle.roll_session.proofs.Bares.{bare_start}
use Rattle.roll_session.proofs.Foretelling.{may_foretell, session_foretold}
use Rattle.roll_session.proofs.gameless.Core.guess_words.Goals as goal

pub foretold_rows-rows-requires-clause-next : goal.foretold_rows-rows-requires-clause-next
foretold_rows-rows-requires-clause-next g c = (may_foretell c.board-board.result.now c.args.words.now c.args.until (sym c.foretold_refusal.ensures ∙ c.in_default.is)).next

pub foretold_rows-rows-requires-clause-from : goal.foretold_rows-rows-requires-clause-from
foretold_rows-rows-requires-clause-from g c = (may_foretell c.board-board.result.now c.args.words.now c.args.until (sym c.foretold_refusal.ensures ∙ c.in_default.is)).from

pub foretold_rows-rows-requires-clause-near : goal.foretold_rows-rows-requires-clause-near
foretold_rows-rows-requires-clause-near g c = (may_foretell c.board-board.result.now c.args.words.now c.args.until (sym c.foretold_refusal.ensures ∙ c.in_default.is)).near

pub returns-clause-job : goal.returns-clause-job
returns-clause-job g c =
    let i = c.self.inside in
    let fine : foretold_until_refusal i.saves.inputs c.args.words.now c.args.until ≡ None = ap (λ (b : Inputs). foretold_until_refusal b c.args.words.now c.args.until) (sym c.board-board.ensures) ∙ sym c.in_default.ensures in
    let rows = c.as_slice.ensures.value ∙ c.foretold_rows-rows.ensures ∙ ap (λ (b : Inputs). foretold_rows b c.args.words.now c.args.until) c.board-board.ensures in
    let s = c.start_along.ensures in
    subst (λ (b : Bare g.row.S.Denot). option_map (λ (r : ℕ × Route). bare_branch 0 r.1) c.start_along.result ≡ words_job_of still b.seen c.args.words.now c.args.until) c.self.view_is
    (bare_start i.saves c.as_slice.result.now c.start_along.result s.left s.route s.none ∙ session_foretold c.self.invariant.0 c.args.words.now c.args.until c.as_slice.result.now fine rows)
