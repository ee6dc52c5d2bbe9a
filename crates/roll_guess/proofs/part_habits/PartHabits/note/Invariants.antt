use Rattle.std.proofs.Common.{◌≡◌, ◌++◌, map, take, drop}
use Rattle.roll_guess.specs.Parts.{part_noted}
use Rattle.roll_guess.proofs.part_habits.PartHabits.note.Given as goal

abbrev pub invariant-loop-part : goal.invariant-loop-part
invariant-loop-part l =
    l.part-items ≡ map (part_noted l.word) (take l.part-index l.initial.part-items) ++ drop l.part-index l.initial.part-items
