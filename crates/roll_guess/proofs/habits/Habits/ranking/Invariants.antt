use Rattle.std.proofs.Common.{[]}
use Rattle.roll_guess.specs.Guesses.{worth_of_words, AreOffered}
use Rattle.roll_guess.proofs.Turns.{IsChangeOrSecondBefore}
use Rattle.roll_guess.proofs.habits.Habits.ranking.Given as goal

abbrev pub invariant-loop-single : goal.invariant-loop-single
invariant-loop-single l =
    AreOffered (worth_of_words l.self l.view) l.view (IsChangeOrSecondBefore l.self l.view l.single-items l.single-index) [] l.ranking.items
