use Rattle.std.proofs.Common.{◌≡◌, ◌∙◌, None, ap, sym}
use Rattle.roll_inputs.specs.Boards.{Inputs}
use Rattle.roll_inputs.specs.Foretold.{foretold_refusal}
use Rattle.roll_session.specs.Foretold.{rerun_of}
use Rattle.roll_session.specs.Gameless.{Bare}
use Rattle.roll_session.proofs.Foretelling.{session_rerun}
use Rattle.roll_session.proofs.gameless.Core.rerun.Goals as goal

pub returns-clause-frames : goal.returns-clause-frames
returns-clause-frames g c =
    let fine : foretold_refusal c.self.inside.saves.inputs.players c.args.words.now ≡ None = ap (λ (b : Inputs). foretold_refusal b.players c.args.words.now) (sym c.board.ensures) ∙ sym c.words_refusal.ensures ∙ c.in_default.is in
    c.count_rerun.ensures ∙ session_rerun c.self.invariant.0 c.args.words.now fine ∙ ap (λ (b : Bare g.row.S.Denot). rerun_of b.seen c.args.words.now) c.self.view_is
