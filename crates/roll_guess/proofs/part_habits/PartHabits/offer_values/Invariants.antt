use Rattle.roll_guess.specs.Guesses.{AreOffered}
use Rattle.roll_guess.specs.PartGuesses.{worth_by_parts, IsChangeTo}
use Rattle.roll_guess.proofs.Ones.{IsOfFirst}
use Rattle.roll_guess.proofs.part_habits.PartHabits.offer_values.Given as goal

abbrev pub invariant-loop-value : goal.invariant-loop-value
invariant-loop-value l =
    AreOffered (worth_by_parts l.self l.view) l.view
    (IsOfFirst l.part.habits.known.items (IsChangeTo l.course.words.items l.word l.part) l.value-index)
    l.initial.ranking.items l.ranking.items
