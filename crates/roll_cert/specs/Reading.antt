-- What is read of a text, line by line.
use Rattle.std.specs.Prelude.{◌≡◌, ℕ, ◌+◌, ◌<◌, ◌≤◌, List, ◌++◌, length, map, nat_eq, if◌then◌else◌}
use Rattle.std.specs.List.{AllByRecursion}
use Rattle.roll_frame.specs.declared.limits.TheConstants.{PLAYER_LIMIT}
use Rattle.roll_frame.specs.declared.refusal.Refusal.{Refusal}
use Rattle.roll_frame.specs.declared.refusal.Refusal.TheVariants.{Unreadable}
use Rattle.roll_text.specs.Lines.{ended, text_of}

abbrev pub IsWithin : ℕ → ℕ → ℕ → Type 0
IsWithin least most n = (least ≤ n) × (n ≤ most)

-- the fewest players of a claim whose text has this version
abbrev pub fewest : ℕ → ℕ
fewest version = if nat_eq version 1 then 1 else 5

-- the most players of one
abbrev pub most : ℕ → ℕ
most version = if nat_eq version 1 then 4 else PLAYER_LIMIT

-- a text's first line is this value's, and another text follows
pub record StartsWith {A : Type 0} (Fits : A → Type 0) (spelling : A → List ℕ) (text after : List ℕ) (a : A) : Type 0 where
  pub fits : Fits a
  pub spelled : text ≡ ended (spelling a) ++ after

-- a text's first line, if there is one, is no value's
abbrev pub StartsWithNone : {A : Type 0} → (A → Type 0) → (A → List ℕ) → List ℕ → Type 0
StartsWithNone {A = A} Fits spelling text = (a : A) (after : List ℕ) → Fits a → text ≡ ended (spelling a) ++ after → ⊥

-- a text's first lines are these values', so many, and another text follows
pub record StartsWithAll {A : Type 0} (Fits : A → Type 0) (spelling : A → List ℕ) (count : ℕ) (text after : List ℕ) (values : List A) : Type 0 where
  pub fit : AllByRecursion Fits values
  pub counted : length values ≡ count
  pub spelled : text ≡ text_of (map spelling values) ++ after

-- the refusal names the first line of a text, which is no value's
abbrev pub IsWrong : {A : Type 0} → (A → Type 0) → (A → List ℕ) → ℕ → List ℕ → Refusal → Type 0
IsWrong Fits spelling line text why = (why ≡ Unreadable line) × StartsWithNone Fits spelling text

-- the refusal names the first line of a text that is no value's, before so many that are
pub record IsWrongAmong {A : Type 0} (Fits : A → Type 0) (spelling : A → List ℕ) (count line : ℕ) (text : List ℕ) (why : Refusal) : Type 0 where
  pub values : List A
  pub left : List ℕ
  pub before : StartsWithAll Fits spelling (length values) text left values
  pub few : length values < count
  pub none : StartsWithNone Fits spelling left
  pub named : why ≡ Unreadable (line + length values)
