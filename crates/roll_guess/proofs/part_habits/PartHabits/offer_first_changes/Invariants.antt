use Rattle.std.proofs.Common.{◌≡◌, ◌≤◌, ◌-◌, length}
use Rattle.std.specs.Prelude.{replicate}
use Rattle.roll_guess.specs.Guesses.{AreOffered}
use Rattle.roll_guess.specs.PartGuesses.{worth_by_parts, IsPartCourse}
use Rattle.roll_guess.proofs.Ones.{IsFirstChangeBefore}
use Rattle.roll_guess.proofs.part_habits.PartHabits.offer_first_changes.Given as goal

abbrev pub invariant-loop-course : goal.invariant-loop-course
invariant-loop-course l = record {
  course : IsPartCourse l.self l.course;
  words : l.course.words.items ≡ replicate (length l.course.words.items) l.self.held;
  within : length l.course.words.items ≤ l.view.unknown;
  offered : AreOffered (worth_by_parts l.self l.view) l.view (IsFirstChangeBefore l.self (length l.course.words.items))
      l.initial.ranking.items l.ranking.items;
}

abbrev pub decreases-loop-course : goal.decreases-loop-course
decreases-loop-course l = l.view.unknown - length l.course.words.items
