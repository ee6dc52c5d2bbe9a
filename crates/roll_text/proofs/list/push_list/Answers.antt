use Rattle.std.proofs.Common.{arith}
use Rattle.std.proofs.lemmas.Grind.{common_steps}
use Rattle.roll_text.proofs.Lists.{list_of-cons}
use Rattle.roll_text.proofs.list.push_list.Goals as goal

pub returns : goal.returns
returns c = grind (arith, common_steps, list_of-cons)
