use Rattle.std.proofs.Common.{◌≡◌, take, fold}
use Rattle.std.specs.Prelude.{bit_and}
use Rattle.roll_guess.specs.Habits.{portion}
use Rattle.roll_guess.specs.Players.{foreseen}
use Rattle.roll_guess.specs.declared.limits.TheConstants.{CERTAIN}
use Rattle.roll_guess.proofs.part_habits.PartHabits.foreseen.Given as goal

abbrev pub invariant-loop-part : goal.invariant-loop-part
invariant-loop-part l =
    l.chance ≡ fold (λ chance part. portion chance (foreseen part.habits (bit_and l.word part.mask))) CERTAIN (take l.part-index l.part-items)
