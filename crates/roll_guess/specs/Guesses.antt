-- What a guess is worth, how far it is run, and what a ranking of guesses is.
use Rattle.std.specs.Prelude.{◌≡◌, ◌≢◌, ◌⊎◌, ℕ, ◌+◌, ◌-◌, ◌*◌, ◌^◌, ◌<◌, ◌≤◌, List, [], ◌∷◌, ◌++◌, length, min, max, fold, replicate, All, Any, Contains, slice_index_or, Bool, not, ◌&&◌, nat_lt}
use Rattle.roll_frame.specs.Core.{settled}
use Rattle.roll_frame.specs.Inputs.{of_player}
use Rattle.roll_frame.specs.declared.limits.TheConstants.{PATH_LIMIT}
use Rattle.roll_inputs.specs.Boards.{count_of}
use Rattle.roll_session.specs.Seen.{Seen}
use Rattle.roll_guess.specs.Habits.{chance_of, held_after, portion}
use Rattle.roll_guess.specs.declared.course.Course.{Course}
use Rattle.roll_guess.specs.declared.habits.Habits.{Habits}
use Rattle.roll_guess.specs.declared.habits.Held.{Held}
use Rattle.roll_guess.specs.declared.limits.TheConstants.{CERTAIN, GUESS_LIMIT, REACH, UNKNOWN_LIMIT}
use Rattle.roll_guess.specs.declared.ranking.Guess.{Guess}
use Rattle.roll_guess.specs.declared.ranking.View.{View}

-- what is held after some words, and the chance that they come, with one word more
abbrev pub further : Habits → Held × ℕ → ℕ → Held × ℕ
further habits so_far word = (held_after so_far.0 word, portion so_far.1 (chance_of habits so_far.0 word))

-- what is held after these words, and the chance that they are the next
abbrev pub along : Habits → List ℕ → Held × ℕ
along habits words = fold (further habits) (habits.held, CERTAIN) words

pub record IsCourse (habits : Habits) (course : Course) : Type 0 where
  pub held : course.held ≡ (along habits course.words.items).0
  pub chance : course.chance ≡ (along habits course.words.items).1

-- what a choice needs to know of a session
abbrev pub view_of : Seen → ℕ → View
view_of s p =
    record {
      player = p;
      from = count_of s.core.players p;
      unknown = min (s.core.frame - count_of s.core.players p) UNKNOWN_LIMIT;
      settled = settled s.core;
      reach = min (settled s.core + PATH_LIMIT) s.settings.limit;
    }

-- what it needs to know if so many frames have no word, and there is no session
abbrev pub view_ahead : ℕ → View
view_ahead unknown = record { player = 0; from = 0; unknown = min unknown UNKNOWN_LIMIT; settled = 0; reach = PATH_LIMIT }

-- whether a session takes guesses of a player: there is one, who hasn't left, and not every frame is settled
abbrev pub takes_guesses : Seen → ℕ → Bool
takes_guesses s p = of_player (λ player. not player.gone) s.core.players p && nat_lt (settled s.core) s.settings.limit

-- the frame to which a guess of so many words is run: as far past the last of them as a job goes, and no further than is taken
abbrev pub until_of : View → ℕ → ℕ
until_of view count = max (view.settled + 1) (min (view.from + count + (REACH - 1)) view.reach)

-- what a guess of so many words is worth: their chance, times the frames from the last of them on
abbrev pub worth_of : View → ℕ → ℕ → ℕ
worth_of view count chance = min (chance * (view.unknown - count + 1)) (2 ^ 32 - 1)

abbrev pub worth_of_words : Habits → View → List ℕ → ℕ
worth_of_words habits view words = worth_of view (length words) (along habits words).1

-- a guess of the player, of 1 to 24 words, run as far and worth as much as it is to be, where words are worth so much
pub record Suits (worths : List ℕ → ℕ) (view : View) (guess : Guess) : Type 0 where
  pub player : guess.player ≡ view.player
  pub some : 1 ≤ length guess.words.items
  pub few : length guess.words.items ≤ PATH_LIMIT
  pub until : guess.until ≡ until_of view (length guess.words.items)
  pub worth : guess.worth ≡ worths guess.words.items

-- what is worth more comes first
abbrev pub IsFalling : List Guess → Type 0
IsFalling guesses =
    (i j : ℕ) (d : Guess) → i < j → j < length guesses
    → (slice_index_or guesses j d).worth ≤ (slice_index_or guesses i d).worth

-- no two are of the same words
abbrev pub AreUnlike : List Guess → Type 0
AreUnlike guesses =
    (i j : ℕ) (d : Guess) → i < j → j < length guesses
    → (slice_index_or guesses i d).words.items ≢ (slice_index_or guesses j d).words.items

pub record IsRanking (worths : List ℕ → ℕ) (view : View) (guesses : List Guess) : Type 0 where
  pub suits : All (Suits worths view) guesses
  pub falling : IsFalling guesses
  pub unlike : AreUnlike guesses

-- the guesses before a place are worth so much, and those from there on less
pub record IsPlace (guesses : List Guess) (worth place : ℕ) : Type 0 where
  pub within : place ≤ length guesses
  pub before : (k : ℕ) (d : Guess) → k < place → worth ≤ (slice_index_or guesses k d).worth
  pub behind : (d : Guess) → place < length guesses → (slice_index_or guesses place d).worth < worth

-- one of the guesses is of these words, or none is
abbrev pub HasOne : List Guess → List ℕ → Type 0
HasOne guesses words = Any (λ guess. guess.words.items ≡ words) guesses

abbrev pub HasNone : List Guess → List ℕ → Type 0
HasNone guesses words = All (λ guess. guess.words.items ≢ words) guesses

-- there are as many guesses as there may be, and each is worth at least what these words are
pub record IsBeaten (worths : List ℕ → ℕ) (guesses : List Guess) (words : List ℕ) : Type 0 where
  pub full : length guesses ≡ GUESS_LIMIT
  pub worth : All (λ guess. worths words ≤ guess.worth) guesses

abbrev pub StandsOrIsBeaten : (List ℕ → ℕ) → List Guess → List ℕ → Type 0
StandsOrIsBeaten worths guesses words = HasOne guesses words ⊎ IsBeaten worths guesses words

-- what a ranking becomes where guesses of certain words are offered: it gets no others, and leaves nothing out that is worth
-- more than what it has
pub record AreOffered (worths : List ℕ → ℕ) (view : View) (IsOffered : List ℕ → Type 0) (old new : List Guess) : Type 0 where
  pub ranked : IsRanking worths view new
  pub only : All (λ guess. HasOne old guess.words.items ⊎ IsOffered guess.words.items) new
  pub kept : (words : List ℕ) → StandsOrIsBeaten worths old words → StandsOrIsBeaten worths new words
  pub all : (words : List ℕ) → IsOffered words → StandsOrIsBeaten worths new words

-- a ranking of all guesses of certain words, or of the best of them
pub record RanksAll (worths : List ℕ → ℕ) (view : View) (IsOffered : List ℕ → Type 0) (guesses : List Guess) : Type 0 where
  pub ranked : IsRanking worths view guesses
  pub only : All (λ guess. IsOffered guess.words.items) guesses
  pub all : (words : List ℕ) → IsOffered words → StandsOrIsBeaten worths guesses words

-- after these words, the one that is held then comes so many times more, and then another one that is known
pub record IsChangeAfter (habits : Habits) (words : List ℕ) (more : ℕ) (next : List ℕ) : Type 0 where
  pub word : ℕ
  pub known : Contains habits.known.items word
  pub other : word ≢ (along habits words).0.word
  pub is : next ≡ words ++ replicate more (along habits words).0.word ++ word ∷ []

-- the change is in one of the frames that have no word yet
abbrev pub IsChange : Habits → View → List ℕ → List ℕ → Type 0
IsChange habits view words next = (more : ℕ) × (length words + more < view.unknown) × IsChangeAfter habits words more next

-- one change, or one after one of these guesses
abbrev pub IsChangeOrSecond : Habits → View → List Guess → List ℕ → Type 0
IsChangeOrSecond habits view singles words =
    IsChange habits view [] words ⊎ Any (λ single. IsChange habits view single.words.items words) singles

-- the guesses of one change, and of a second one after the best of these
pub record IsComplete (habits : Habits) (view : View) (guesses : List Guess) : Type 0 where
  pub singles : List Guess
  pub best : RanksAll (worth_of_words habits view) view (IsChange habits view []) singles
  pub ranks : RanksAll (worth_of_words habits view) view (IsChangeOrSecond habits view singles) guesses
