use Rattle.std.proofs.Common.{◌∙◌, sym}
use Rattle.roll_inputs.specs.Foretold.{foretold_tests, until_tests}
use Rattle.roll_inputs.proofs.Refusals.{is_behind, is_first}
use Rattle.roll_inputs.proofs.board.Board.foretold_refusal.Goals as goal

pub returns-then-is_some : goal.returns-then-is_some
returns-then-is_some c =
    let now = c.args.self.now in
    is_first (foretold_tests now.players c.args.words.now) (until_tests now.settled now.limit c.args.until) c.words_refusal-refusal.result c.words_refusal-refusal.ensures (sym c.is_some.ensures ∙ c.if-is_some.true)

pub returns-else-is_some : goal.returns-else-is_some
returns-else-is_some c =
    let now = c.args.self.now in
    c.until_refusal.ensures
    ∙ sym (is_behind (foretold_tests now.players c.args.words.now) (until_tests now.settled now.limit c.args.until) c.words_refusal-refusal.result c.words_refusal-refusal.ensures (sym c.is_some.ensures ∙ c.if-is_some.false))
