-- What was seen of a player by whole words and by parts, and which of the two foresaw more.
use Rattle.std.specs.Prelude.{ℕ, ◌+◌, ◌-◌, ◌/◌, ◌^◌, List, min, fold, bit_and, Bool, ◌==◌, nat_lt, if◌then◌else◌, MatchBool}
use Rattle.std.specs.List.{list_any}
use Rattle.roll_guess.specs.Guesses.{IsComplete}
use Rattle.roll_guess.specs.Habits.{chance_of, first_habits, noted, portion}
use Rattle.roll_guess.specs.Parts.{first_parts, parts_noted}
use Rattle.roll_guess.specs.PartGuesses.{IsCompleteByParts}
use Rattle.roll_guess.specs.declared.habits.Habits.{Habits}
use Rattle.roll_guess.specs.declared.limits.TheConstants.{CERTAIN, SCORE_FADE}
use Rattle.roll_guess.specs.declared.part_habits.PartHabits.{PartHabits}
use Rattle.roll_guess.specs.declared.player.PlayerHabits.{PlayerHabits}
use Rattle.roll_guess.specs.declared.ranking.Guess.{Guess}
use Rattle.roll_guess.specs.declared.ranking.View.{View}

-- the chance that the guesses gave a word that came: none if it wasn't known
abbrev pub foreseen : Habits → ℕ → ℕ
foreseen habits word =
    if list_any (λ k. k == word) habits.known.items then chance_of habits habits.held word else 0

abbrev pub foreseen_by_parts : PartHabits → ℕ → ℕ
foreseen_by_parts habits word =
    fold (λ chance part. portion chance (foreseen part.habits (bit_and word part.mask))) CERTAIN habits.parts.items

-- a score fades, and gets the chance that was given
abbrev pub scored : ℕ → ℕ → ℕ
scored score chance = min (score - score / SCORE_FADE + chance) (2 ^ 32 - 1)

abbrev pub first_player : List ℕ → List ℕ → PlayerHabits
first_player masks likely =
    record { words = first_habits likely; parts = first_parts masks likely; of_words = 0; of_parts = 0 }

-- the habits once the next word came: only a change is scored
abbrev pub player_noted : PlayerHabits → ℕ → PlayerHabits
player_noted habits word =
    record {
      words = noted habits.words word;
      parts = parts_noted habits.parts word;
      of_words = if word == habits.words.held.word then habits.of_words else scored habits.of_words (foreseen habits.words word);
      of_parts = if word == habits.words.held.word then habits.of_parts else scored habits.of_parts (foreseen_by_parts habits.parts word);
    }

-- the parts foresaw more of the last changes than whole words did
abbrev pub prefers_parts : PlayerHabits → Bool
prefers_parts habits = nat_lt habits.of_words habits.of_parts

-- the best guesses by what foresaw more
abbrev pub IsChosen : PlayerHabits → View → List Guess → Type 0
IsChosen habits view guesses =
    MatchBool (prefers_parts habits) (IsCompleteByParts habits.parts view guesses) (IsComplete habits.words view guesses)
