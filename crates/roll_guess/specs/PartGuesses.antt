-- Which guesses are worth the most by parts of a word.
use Rattle.std.specs.Prelude.{◌≡◌, ◌≢◌, ◌⊎◌, ℕ, ◌+◌, ◌-◌, ◌<◌, ◌≤◌, List, [], ◌∷◌, ◌++◌, length, replicate, take, bit_and, Any, slice_index_or}
use Rattle.roll_guess.specs.Guesses.{worth_of, RanksAll}
use Rattle.roll_guess.specs.Parts.{along_by_parts, changed}
use Rattle.roll_guess.specs.declared.part_course.PartCourse.{PartCourse}
use Rattle.roll_guess.specs.declared.part_habits.Part.{Part}
use Rattle.roll_guess.specs.declared.part_habits.PartHabits.{PartHabits}
use Rattle.roll_guess.specs.declared.ranking.Guess.{Guess}
use Rattle.roll_guess.specs.declared.ranking.View.{View}

abbrev pub worth_by_parts : PartHabits → View → List ℕ → ℕ
worth_by_parts habits view words = worth_of view (length words) (along_by_parts habits.parts.items words).1

pub record IsPartCourse (habits : PartHabits) (course : PartCourse) : Type 0 where
  pub count : length course.words.items ≡ (along_by_parts habits.parts.items course.words.items).0
  pub chance : course.chance ≡ (along_by_parts habits.parts.items course.words.items).1

-- after these words comes this one, but with another value of a part than the part holds
abbrev pub IsChangeTo : List ℕ → ℕ → Part → ℕ → List ℕ → Type 0
IsChangeTo words word part value next =
    (value ≢ part.habits.held.word) × (next ≡ words ++ changed part word value ∷ [])

-- with a known one
abbrev pub IsValueChange : List ℕ → ℕ → Part → List ℕ → Type 0
IsValueChange words word part next = Any (λ value. IsChangeTo words word part value next) part.habits.known.items

-- and the part is in the word as it is held
abbrev pub IsChangeIn : List ℕ → ℕ → Part → List ℕ → Type 0
IsChangeIn words word part next = (bit_and word part.mask ≡ part.habits.held.word) × IsValueChange words word part next

-- of one of these parts
abbrev pub IsPartChange : List Part → List ℕ → ℕ → List ℕ → Type 0
IsPartChange parts words word next = Any (λ part. IsChangeIn words word part next) parts

-- the word that is held comes some times more, and then one in which a part is changed, in a frame that has no word yet
abbrev pub IsFirstChange : PartHabits → View → List ℕ → Type 0
IsFirstChange habits view next =
    (more : ℕ) × (more < view.unknown) × IsPartChange habits.parts.items (replicate more habits.held) habits.held next

-- these words, but that in the last of them one part more is changed
abbrev pub IsWiderChange : PartHabits → List ℕ → List ℕ → Type 0
IsWiderChange habits words next =
    IsPartChange habits.parts.items (take (length words - 1) words) (slice_index_or words (length words - 1) 0) next

-- one part is changed, or one more in the frame of one of these guesses
abbrev pub IsFirstOrWider : PartHabits → View → List Guess → List ℕ → Type 0
IsFirstOrWider habits view singles words =
    IsFirstChange habits view words ⊎ Any (λ single. IsWiderChange habits single.words.items words) singles

-- the guesses in which one part is changed, and those in which one more is in the frame of one of the best of these
pub record IsCompleteByParts (habits : PartHabits) (view : View) (guesses : List Guess) : Type 0 where
  pub singles : List Guess
  pub best : RanksAll (worth_by_parts habits view) view (IsFirstChange habits view) singles
  pub ranks : RanksAll (worth_by_parts habits view) view (IsFirstOrWider habits view singles) guesses
