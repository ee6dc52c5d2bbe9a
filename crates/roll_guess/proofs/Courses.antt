-- A course and one more word.
use Rattle.std.proofs.Common.{◌≡◌, ℕ, List, [], ◌∷◌, ◌++◌, sym, ◌∙◌, ap}
use Rattle.std.proofs.lemmas.List.Sums.{fold-append}
use Rattle.roll_guess.specs.Guesses.{along, further, IsCourse}
use Rattle.roll_guess.specs.Habits.{chance_of, held_after, portion}
use Rattle.roll_guess.specs.declared.course.Course.{Course}
use Rattle.roll_guess.specs.declared.habits.Habits.{Habits}
use Rattle.roll_guess.specs.declared.limits.TheConstants.{CERTAIN}

along-append : (habits : Habits) (words : List ℕ) (word : ℕ) → along habits (words ++ word ∷ []) ≡ further habits (along habits words) word
along-append habits words word = fold-append (further habits) (habits.held, CERTAIN) words (word ∷ [])

pub course_further : (habits : Habits) (course next : Course) (word chance : ℕ) → IsCourse habits course
    → next.words.items ≡ course.words.items ++ word ∷ [] → next.held ≡ held_after course.held word
    → chance ≡ chance_of habits course.held word → next.chance ≡ portion course.chance chance → IsCourse habits next
course_further habits course next word chance is words held likely parted =
    let ended = ap (along habits) words ∙ along-append habits course.words.items word in
    record {
      held = held ∙ ap (λ h. held_after h word) is.held ∙ ap (λ s. s.0) (sym ended);
      chance = parted ∙ ap (portion course.chance) likely ∙ ap (λ c. portion c (chance_of habits course.held word)) is.chance
          ∙ ap (λ h. portion (along habits course.words.items).1 (chance_of habits h word)) is.held ∙ ap (λ s. s.1) (sym ended);
    }
