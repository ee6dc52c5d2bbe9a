-- What is taken from a reader, and what stands written, where it is known.
use Rattle.std.specs.Prelude.{◌≡◌, ◌⊎◌, ℕ, ◌+◌, ◌<◌, ◌≤◌, List, length, take, Option}
use Rattle.std.specs.Io.KnownBytes.{Appends, Consumes}
use Rattle.roll_text.specs.Text.{IsUnreadableAt}
use Rattle.roll_text.specs.declared.streams.ReadFault.{ReadFault}
use Rattle.roll_text.specs.declared.streams.ReadFault.TheVariants.{TooLong, NoMemory, Read}
use Rattle.roll_text.specs.declared.streams.TheConstants.{TEXT_LIMIT}

-- how many bytes were taken from the reader at a fault
abbrev pub IsTaken : ReadFault → ℕ → Type 0
IsTaken TooLong count = count ≡ TEXT_LIMIT + 1
IsTaken NoMemory count = count ≤ TEXT_LIMIT + 1
IsTaken Read count = count ≤ TEXT_LIMIT

-- known bytes lose as many at a fault
abbrev pub LosesAt : ReadFault → Option (List ℕ) → Option (List ℕ) → Type 0
LosesAt fault old new = (bytes : List ℕ) × Consumes old new bytes × IsTaken fault (length bytes)

-- known bytes grow by a front of the text that isn't all of it
abbrev pub AppendsPart : Option (List ℕ) → Option (List ℕ) → List ℕ → Type 0
AppendsPart old new text = (count : ℕ) × (count < length text) × Appends old new (take count text)

-- the text is too long, which counts as line 0, or the line is the first that no readable text with the same earlier lines has
abbrev pub IsBadAt : (List ℕ → Type 0) → ℕ → List ℕ → Type 0
IsBadAt IsReadable line text = ((line ≡ 0) × (TEXT_LIMIT < length text)) ⊎ ((length text ≤ TEXT_LIMIT) × IsUnreadableAt line IsReadable text)
