use Rattle.roll_guess.specs.Guesses.{AreOffered}
use Rattle.roll_guess.specs.PartGuesses.{worth_by_parts, IsWiderChange}
use Rattle.roll_guess.proofs.Ones.{IsOfFirst}
use Rattle.roll_guess.proofs.part_habits.PartHabits.ranking.Given as goal

abbrev pub invariant-loop-single : goal.invariant-loop-single
invariant-loop-single l =
    AreOffered (worth_by_parts l.self l.view) l.view
    (IsOfFirst l.single-items (λ single. IsWiderChange l.self single.words.items) l.single-index)
    l.initial.ranking.items l.ranking.items
