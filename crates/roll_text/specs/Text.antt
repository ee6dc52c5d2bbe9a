-- What it is to read a text, and where a text that can't be read goes wrong.
use Rattle.std.specs.Prelude.{◌≡◌, ℕ, ◌-◌, ◌≤◌, List, take, Option, Some, None}
use Rattle.roll_text.specs.Lines.{lines_of, text_of}

-- The option is the value that has this spelling, and is none only where no value has it.
abbrev pub Reads : {X Y : Type 0} → (X → Type 0) → (X → Y) → Y → Option X → Type 0
Reads Fits spelling text (Some x) = Fits x × (text ≡ spelling x)
Reads {X = X} Fits spelling text None = (x : X) → Fits x → text ≡ spelling x → ⊥

-- The line is the first that no readable text with the same earlier lines has. A line that is
-- missing counts with the number that it would have.
pub record IsUnreadableAt (line : ℕ) (IsReadable : List ℕ → Type 0) (text : List ℕ) : Type 0 where
  pub counted : 1 ≤ line
  pub earlier : (other : List ℕ) × IsReadable other × (take (line - 1) (lines_of other) ≡ take (line - 1) (lines_of text))
  pub here : (other : List ℕ) → IsReadable other → take line (lines_of other) ≡ take line (lines_of text) → ⊥

-- the text of some value, whose lines are given
abbrev pub Spells : {X : Type 0} → (X → Type 0) → (X → List (List ℕ)) → List ℕ → Type 0
Spells {X = X} Fits lines text = (x : X) × Fits x × (text ≡ text_of (lines x))
