use Rattle.std.proofs.Common.{◌≡◌, ◌++◌, take}
use Rattle.roll_text.proofs.Lists.{list_more}
use Rattle.roll_text.proofs.list.push_list.Given as goal

abbrev pub invariant-loop-n : goal.invariant-loop-n
invariant-loop-n l = l.out.items ≡ l.initial.out.items ++ list_more (take l.n-index l.others)
