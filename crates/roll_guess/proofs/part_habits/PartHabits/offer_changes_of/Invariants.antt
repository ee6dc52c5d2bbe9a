use Rattle.roll_guess.specs.Guesses.{AreOffered}
use Rattle.roll_guess.specs.PartGuesses.{worth_by_parts, IsChangeIn}
use Rattle.roll_guess.proofs.Ones.{IsOfFirst}
use Rattle.roll_guess.proofs.part_habits.PartHabits.offer_changes_of.Given as goal

abbrev pub invariant-loop-part : goal.invariant-loop-part
invariant-loop-part l =
    AreOffered (worth_by_parts l.self l.view) l.view
    (IsOfFirst l.self.parts.items (IsChangeIn l.course.words.items l.word) l.part-index)
    l.initial.ranking.items l.ranking.items
