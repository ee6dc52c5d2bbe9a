use Rattle.std.proofs.Common.{◌∙◌}
use Rattle.roll_cert.proofs.Whole.{not_long, read_again, read_whole}
use Rattle.roll_cert.proofs.reading.read.Goals as goal

pub returns-then-text-gt-TEXT_LIMIT-clause-readable : goal.returns-then-text-gt-TEXT_LIMIT-clause-readable
returns-then-text-gt-TEXT_LIMIT-clause-readable c = λ readable. absurd (not_long c.args.text.now readable c.if-text-gt-TEXT_LIMIT.true)

pub returns-clause-again : goal.returns-clause-again
returns-clause-again c = λ claim fits e. read_again c.read_claim.result c.new.result.rest.now c.read_claim.ensures.sized c.read_claim.ensures.claim claim fits (c.new.ensures.rest ∙ e)

pub returns-clause-readable : goal.returns-clause-readable
returns-clause-readable c = λ (claim, fits, e). read_whole c.read_claim.result c.new.result.rest.now c.read_claim.ensures.refused (claim, fits, c.new.ensures.rest ∙ e)
