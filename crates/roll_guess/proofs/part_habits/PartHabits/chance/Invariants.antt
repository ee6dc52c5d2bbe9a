use Rattle.std.proofs.Common.{◌≡◌, take}
use Rattle.roll_guess.specs.Parts.{chance_by_parts}
use Rattle.roll_guess.proofs.part_habits.PartHabits.chance.Given as goal

abbrev pub invariant-loop-part : goal.invariant-loop-part
invariant-loop-part l = l.chance ≡ chance_by_parts (take l.part-index l.part-items) l.more l.word
