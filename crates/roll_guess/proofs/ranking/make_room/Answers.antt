use Rattle.std.proofs.Common.{sym, arith}
use Rattle.std.proofs.lemmas.Grind.{common_steps}
use Rattle.std.proofs.lemmas.List.{take_all}
use Rattle.roll_guess.proofs.ranking.make_room.Goals as goal

pub returns-else-is_full : goal.returns-else-is_full
returns-else-is_full c = sym (take_all 31 c.args.ranking.now.items (grind (arith, common_steps)))
