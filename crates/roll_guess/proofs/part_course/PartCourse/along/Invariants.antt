use Rattle.std.proofs.Common.{◌≡◌, take}
use Rattle.roll_guess.specs.PartGuesses.{IsPartCourse}
use Rattle.roll_guess.proofs.part_course.PartCourse.along.Given as goal

abbrev pub invariant-loop-word : goal.invariant-loop-word
invariant-loop-word l = record { course : IsPartCourse l.habits l.course; words : l.course.words.items ≡ take l.word-index l.words }
