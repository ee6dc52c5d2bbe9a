use Rattle.std.proofs.Common.{arith}
use Rattle.std.proofs.lemmas.Grind.{common_steps}
use Rattle.roll_duel.proofs.Texts.{duel_pieces}
use Rattle.roll_duel.proofs.text.push_duel.Goals as goal

pub returns : goal.returns
returns c = grind (arith, common_steps, duel_pieces)
