-- Numbers of 32 bits in decimal, and lists of them in one field.
use Rattle.std.specs.Prelude.{◌≡◌, ℕ, ◌<◌, ◌≤◌, ◌^◌, ◌++◌, List, length, map, slice_index, Option, Some, None}
use Rattle.std.specs.List.{All, join_with_byte}
use Rattle.std.specs.Fmt.{decimal}
use Rattle.std.specs.Int.{IsInRange, IsOutOfRange}

abbrev pub IsWord : ℕ → Type 0
IsWord n = n < 2 ^ 32

-- a comma, byte 44, stands between each two numbers
abbrev pub list_of : List ℕ → List ℕ
list_of numbers = join_with_byte 44 (map decimal numbers)

abbrev pub IsList : List ℕ → Type 0
IsList numbers = (0 < length numbers) × All IsWord numbers

-- the first bytes of a text are digits
abbrev pub AreDigits : ℕ → List ℕ → Type 0
AreDigits count text = (count ≤ length text) × ((i : ℕ) → i < count → IsInRange 48 57 (slice_index text i))

-- a text doesn't begin with a digit
abbrev pub LacksDigit : List ℕ → Type 0
LacksDigit text = 0 < length text → IsOutOfRange 48 57 (slice_index text 0)

-- a number that is spelled by all the digits that the text begins with, and what follows them; none where they spell none
abbrev pub CutsNumber : List ℕ → Option (ℕ × List ℕ) → Type 0
CutsNumber text (Some cut) = IsWord cut.0 × LacksDigit cut.1 × (text ≡ decimal cut.0 ++ cut.1)
CutsNumber text None = (n : ℕ) (rest : List ℕ) → IsWord n → LacksDigit rest → text ≡ decimal n ++ rest → ⊥
