use Rattle.std.proofs.Common.{◌∙◌, [], arith, sym}
use Rattle.std.specs.Fmt.{decimal}
use Rattle.std.proofs.lemmas.List.{append-nil}
use Rattle.std.proofs.lemmas.Grind.{common_steps}
use Rattle.roll_text.proofs.Digits.{not_whole}
use Rattle.roll_text.proofs.decimal.number.Goals as goal

pub returns-in_default : goal.returns-in_default
returns-in_default c = λ n word whole. c.in_default.ensures n [] word (λ some. absurd (omega (arith, some))) (whole ∙ sym (append-nil (decimal n)))

pub returns-else-is_empty : goal.returns-else-is_empty
returns-else-is_empty c = λ n word whole.
    let cut = c.in-Some.ensures in
    not_whole c.in-Some.n c.in-Some.rest.now c.args.text.now cut.0 cut.1 cut.2 n word whole (grind (arith, common_steps))
