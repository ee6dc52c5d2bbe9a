use Rattle.roll_guess.specs.Guesses.{worth_of_words, AreOffered}
use Rattle.roll_guess.proofs.Turns.{IsTurnBefore}
use Rattle.roll_guess.proofs.habits.Habits.offer_words.Given as goal

abbrev pub invariant-loop-word : goal.invariant-loop-word
invariant-loop-word l =
    AreOffered (worth_of_words l.self l.view) l.view (IsTurnBefore l.self.known.items l.word-index l.course.held.word l.course.words.items)
    l.initial.ranking.items l.ranking.items
