use Rattle.roll_laws.proofs.Ruled.{words_rule_out}
use Rattle.roll_laws.proofs.words_rule_out.Goals as goal

pub returns : goal.returns
returns c = words_rule_out
