use Rattle.std.proofs.Common.{◌-◌, ◌≤◌, length, max}
use Rattle.roll_guess.specs.Guesses.{worth_of_words, AreOffered, IsCourse}
use Rattle.roll_guess.proofs.Changes.{HoldsOn, IsChangeBefore}
use Rattle.roll_guess.proofs.habits.Habits.offer_changes.Given as goal

abbrev pub invariant-loop-course : goal.invariant-loop-course
invariant-loop-course l = record {
  course : IsCourse l.self l.course;
  holds : HoldsOn l.self l.fn.course.words.items l.course;
  within : length l.course.words.items ≤ max l.view.unknown (length l.fn.course.words.items);
  offered : AreOffered (worth_of_words l.self l.view) l.view (IsChangeBefore l.self l.fn.course.words.items (length l.course.words.items))
      l.initial.ranking.items l.ranking.items;
}

abbrev pub decreases-loop-course : goal.decreases-loop-course
decreases-loop-course l = l.view.unknown - length l.course.words.items
