-- The parts of a word, and how likely words are by what was seen of each part.
use Rattle.std.specs.Prelude.{◌≡◌, ◌≢◌, ℕ, ◌+◌, ◌-◌, ◌*◌, ◌/◌, ◌^◌, ◌<◌, ◌≤◌, List, [], ◌∷◌, ◌++◌, length, min, fold, map, bit_and, bit_or, All, AllPairs, Any, Bool, ◌==◌, if◌then◌else◌, slice_index_or}
use Rattle.std.specs.List.{list_any}
use Rattle.roll_guess.specs.Habits.{chance_of, first_habits, known_after, noted, portion}
use Rattle.roll_guess.specs.declared.habits.Habits.{Habits}
use Rattle.roll_guess.specs.declared.habits.Held.{Held}
use Rattle.roll_guess.specs.declared.limits.TheConstants.{CERTAIN, PART_LIMIT}
use Rattle.roll_guess.specs.declared.part_habits.Part.{Part}
use Rattle.roll_guess.specs.declared.part_habits.PartHabits.{PartHabits}
use Rattle.roll_guess.specs.declared.parts.PartsRefusal.{PartsRefusal}
use Rattle.roll_guess.specs.declared.parts.PartsRefusal.TheVariants.{Empty, Overlap, TooMany}

-- two masks have no bit in common
abbrev pub AreApart : ℕ → ℕ → Type 0
AreApart a b = bit_and a b ≡ 0

-- masks that can be the parts of a word: each has a bit, and no two have one in common
pub record AreParts (masks : List ℕ) : Type 0 where
  pub few : length masks ≤ PART_LIMIT
  pub some : All (λ mask. mask ≢ 0) masks
  pub apart : AllPairs AreApart masks

-- two of the masks have a bit in common
pub record Meet (masks : List ℕ) : Type 0 where
  pub first : ℕ
  pub second : ℕ
  pub in_order : first < second
  pub there : second < length masks
  pub meet : bit_and (slice_index_or masks first 0) (slice_index_or masks second 0) ≢ 0

-- what is wrong with masks that aren't
abbrev pub IsReason : List ℕ → PartsRefusal → Type 0
IsReason masks TooMany = PART_LIMIT < length masks
IsReason masks Empty = Any (λ mask. mask ≡ 0) masks
IsReason masks Overlap = Meet masks

-- a word without these bits
abbrev pub without : ℕ → ℕ → ℕ
without word mask = bit_and word (4294967295 - mask)

-- the bits that are in none of the masks
abbrev pub bits_left : List ℕ → ℕ
bits_left masks = fold without 4294967295 masks

-- all parts: those that are named, and one of the other bits, if there are any
abbrev pub all_masks : List ℕ → ℕ → List ℕ
all_masks masks rest = if rest == 0 then masks else masks ++ rest ∷ []

-- nothing was seen yet of a part, and these words are likely
abbrev pub first_part : List ℕ → ℕ → Part
first_part likely mask =
    record {
      mask = mask;
      habits = record (first_habits []) {
        known = record { items = fold (λ known word. known_after known (bit_and word mask)) (known_after [] 0) likely };
      };
    }

abbrev pub first_parts : List ℕ → List ℕ → PartHabits
first_parts masks likely =
    record { held = 0; parts = record { items = map (first_part likely) (all_masks masks (bits_left masks)) } }

-- a part, and all of them, once the next word came
abbrev pub part_noted : ℕ → Part → Part
part_noted word part = record { mask = part.mask; habits = noted part.habits (bit_and word part.mask) }

abbrev pub parts_noted : PartHabits → ℕ → PartHabits
parts_noted habits word =
    record { held = word; parts = record { items = map (part_noted word) habits.parts.items } }

-- what is held for some frames more
abbrev pub aged : Held → ℕ → Held
aged held more = record { word = held.word; age = min (held.age + more) (2 ^ 32 - 1) }

-- the chance that a part comes next as it is in this word, after it was held for some frames more
abbrev pub part_chance : Part → ℕ → ℕ → ℕ
part_chance part more word = chance_of part.habits (aged part.habits.held more) (bit_and word part.mask)

-- the chance that all parts do, each by itself
abbrev pub chance_by_parts : List Part → ℕ → ℕ → ℕ
chance_by_parts parts more word = fold (λ chance part. portion chance (part_chance part more word)) CERTAIN parts

-- the same number of words held and one more, and the chance that they come, with one word more
abbrev pub further_by_parts : List Part → ℕ × ℕ → ℕ → ℕ × ℕ
further_by_parts parts so_far word = (so_far.0 + 1, portion so_far.1 (chance_by_parts parts so_far.0 word))

-- how many words these are, and the chance that they come, where all but the last are the word that is held
abbrev pub along_by_parts : List Part → List ℕ → ℕ × ℕ
along_by_parts parts words = fold (further_by_parts parts) (0, CERTAIN) words

-- a word with another value of a part
abbrev pub changed : Part → ℕ → ℕ → ℕ
changed part word value = bit_or (without word part.mask) value
