use Rattle.std.proofs.Common.{◌++◌, ◌∙◌, ap, sym}
use Rattle.std.proofs.lemmas.Fmt.{decimal_digit}
use Rattle.roll_text.proofs.decimal.push_number.Goals as goal

pub returns-then-n-lt10-clause-ok : goal.returns-then-n-lt10-clause-ok
returns-then-n-lt10-clause-ok c = c.in_ok-push.ensures.items ∙ ap (λ t. c.args.out.now.items ++ t) (sym (decimal_digit c.args.n c.if-n-lt10.true))
