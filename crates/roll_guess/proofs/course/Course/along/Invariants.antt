use Rattle.std.proofs.Common.{◌≡◌, take}
use Rattle.roll_guess.specs.Guesses.{IsCourse}
use Rattle.roll_guess.proofs.course.Course.along.Given as goal

abbrev pub invariant-loop-word : goal.invariant-loop-word
invariant-loop-word l = record { course : IsCourse l.habits l.course; words : l.course.words.items ≡ take l.word-index l.words }
