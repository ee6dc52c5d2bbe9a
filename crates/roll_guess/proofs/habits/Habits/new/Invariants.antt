use Rattle.std.proofs.Common.{◌≡◌, fold, take}
use Rattle.roll_guess.specs.Habits.{known_after}
use Rattle.roll_guess.proofs.habits.Habits.new.Given as goal

abbrev pub invariant-loop-word : goal.invariant-loop-word
invariant-loop-word l = l.habits ≡ record l.initial.habits { known = record { items = fold known_after l.initial.habits.known.items (take l.word-index l.likely) } }
