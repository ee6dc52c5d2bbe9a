-- What a call of a player's habits comes to.
use Rattle.std.specs.Prelude.{◌≡◌, ◌⊎◌, ◌-◌, ℕ, ℤ, pos, List, ◌++◌, length, map, take, drop, min, replicate, Option, Some, None, IfSome}
use Rattle.roll_guess.specs.Guesses.{view_ahead}
use Rattle.roll_guess.specs.Parts.{AreParts, IsReason}
use Rattle.roll_guess.specs.Players.{first_player, player_noted, IsChosen}
use Rattle.roll_guess.specs.declared.parts.PartsRefusal.{PartsRefusal}
use Rattle.roll_guess.specs.declared.player.PlayerHabits.{PlayerHabits}
use Rattle.roll_guess.specs.declared.ranking.Guess.{Guess}
use Rattle.fazgrond_c.specs.declared.habits.ForeseenOut.{ForeseenOut}
use Rattle.fazgrond_c.specs.declared.open.Open.{Open}
use Rattle.fazgrond_c.specs.declared.open.Open.TheVariants.{Habits}

abbrev pub habits_in : Option Open → Option PlayerHabits
habits_in (Some (Habits habits)) = Some habits
habits_in held = None

-- nothing was seen yet of a player whose words have these parts
pub record IsOpened (parts likely : List ℕ) (habits : PlayerHabits) : Type 0 where
  pub are_parts : AreParts parts
  pub new : habits ≡ first_player parts likely

-- why no habits are opened: the masks aren't the parts of a word, or memory ran out
abbrev pub IsWhyClosed : List ℕ → ℤ → Type 0
IsWhyClosed parts code = ((code ≡ pos 11) × ((why : PartsRefusal) × IsReason parts why)) ⊎ (code ≡ pos 107)

-- the player's next word is noted
pub record IsSeen (word : ℕ) (old new : PlayerHabits) (code : ℤ) : Type 0 where
  pub code_is : code ≡ pos 0
  pub seen : new ≡ player_noted old word

abbrev pub foreseen_out : Guess → ForeseenOut
foreseen_out guess =
    record {
      count = length guess.words.items;
      worth = guess.worth;
      words = guess.words.items ++ replicate (24 - length guess.words.items) 0;
    }

-- the best guesses are written to the front of a buffer, as many as there is room for
pub record AreForeseen (frames : ℕ) (habits : PlayerHabits) (before after : List ForeseenOut) (count : ℕ) : Type 0 where
  pub guesses : List Guess
  pub chosen : IsChosen habits (view_ahead frames) guesses
  pub count_is : count ≡ min (length before) (length guesses)
  pub written : after ≡ map foreseen_out (take count guesses) ++ drop count before

-- those of open habits; closed ones have none
pub record AreForeseenBy (frames : ℕ) (old new : Option Open) (before after : List ForeseenOut) (count : ℕ) : Type 0 where
  pub kept : new ≡ old
  pub closed : habits_in old ≡ None → (count ≡ 0) × (after ≡ before)
  pub foreseen : IfSome (habits_in old) (λ habits. AreForeseen frames habits before after count)
