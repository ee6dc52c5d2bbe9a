-- What is wrong with a line's fields is true of the line.
use Rattle.std.proofs.Common.{◌≡◌, ◌⊎◌, ◌-◌, Some, inl, inr, sym, refl, arith, ℕ, List, length}
use Rattle.std.specs.List.{Contains, slice_get}
use Rattle.std.specs.Fmt.{decimal}
use Rattle.roll_text.specs.Lines.{Lacks, ended, lines_of}
use Rattle.roll_text.specs.Numbers.{IsWord}
use Rattle.roll_frame.specs.declared.limits.TheConstants.{PATH_LIMIT, PLAYER_LIMIT}
use Rattle.prog_scripts.specs.declared.diagnosis.Diagnosis.{Diagnosis}
use Rattle.prog_scripts.specs.declared.diagnosis.Diagnosis.TheVariants.{Missing, Unended, FieldCount, Word, Number, OutOfRange, ListLength, NotRising}
use Rattle.prog_scripts.specs.declared.lines.Item.{Item}
use Rattle.prog_scripts.specs.declared.lines.Item.TheVariants.{Word as AWord, Number as ANumber, List as AList, Players, Row}
use Rattle.prog_scripts.specs.Diagnoses.{IsFaultAs, IsFaultOfCell, IsFaultOfCount, IsFaultOfFields, IsFaultOfLength, IsFaultOfList, IsFaultOfNumber, IsFaultOfOrder, IsFaultOfPath, IsFaultOfRange, IsFaultOfText, IsFaultOfWord, IsPiece, IsSaidOf, IsTrueInside, IsTrueOf, fields, parts}

text_said : (line text : List ℕ) (d : Diagnosis) → IsPiece line text → IsFaultOfText text d → IsTrueInside line d
text_said line text (Number found why) at h = (rw h.0 at, rw h.0 h.1, rw h.0 h.2)
text_said line text d at h = absurd h

word_said : (line field wanted : List ℕ) (d : Diagnosis) → Contains (fields line) field → IsFaultOfWord wanted field d → IsTrueInside line d
word_said line field wanted (Word found other) at h = (rw h.0 at, rw (h.0, h.1) h.2)
word_said line field wanted d at h = absurd h

range_said : (line : List ℕ) (least most n : ℕ) (d : Diagnosis) → IsPiece line (decimal n) → IsWord n → IsFaultOfRange least most n d → IsTrueInside line d
range_said line least most n (OutOfRange found low high) at word h = (rw h.0 at, omega arith, rw (h.0, h.1, h.2) h.3)
range_said line least most n d at word h = absurd h

number_said : (line text : List ℕ) (least most : ℕ) (d : Diagnosis) → IsPiece line text → IsFaultOfNumber least most text d → IsTrueInside line d
number_said line text least most d at (inl h) = text_said line text d at h
number_said line text least most d at (inr h) = range_said line least most h.0 d (rw (sym h.2) at) h.1 h.3

length_said : (line : List ℕ) (least most count : ℕ) (d : Diagnosis)
    → (count ≡ length (fields line)) ⊎ ((field : List ℕ) × Contains (fields line) field × (count ≡ length (parts field)))
    → IsFaultOfLength least most count d → IsTrueInside line d
length_said line least most count (ListLength found low high) at h = (rw h.0 at, rw (h.0, h.1, h.2) h.3)
length_said line least most count d at h = absurd h

order_said : (line field : List ℕ) (d : Diagnosis) → Contains (fields line) field → IsFaultOfOrder (parts field) d → IsTrueInside line d
order_said line field (NotRising found before) at h = (field, at, h)
order_said line field d at h = absurd h

count_said : (line : List ℕ) (wanted : ℕ) (d : Diagnosis) → IsFaultOfCount wanted (length (fields line)) d → IsTrueInside line d
count_said line wanted (FieldCount found asked) h = (h.0, rw h.1 h.2)
count_said line wanted d h = absurd h

-- of a field's parts
parts_said : (IsFault : List ℕ → Diagnosis → Type 0) (least most : ℕ) (line field : List ℕ) (d : Diagnosis)
    → ((text : List ℕ) → IsPiece line text → IsFault text d → IsTrueInside line d)
    → Contains (fields line) field → IsFaultOfList IsFault least most (parts field) d → IsTrueInside line d
parts_said IsFault least most line field d each at (inl h) = length_said line least most (length (parts field)) d (inr (field, at, refl)) h
parts_said IsFault least most line field d each at (inr h) = each h.0 (inr (field, at, h.1)) h.2

item_said : (item : Item) (line field : List ℕ) (d : Diagnosis) → Contains (fields line) field → IsFaultAs item field d → IsTrueInside line d
item_said (AWord wanted) line field d at h = word_said line field wanted.now d at h
item_said (ANumber least most) line field d at h = number_said line field least most d (inl at) h
item_said (AList least most) line field d at h = parts_said IsFaultOfText least most line field d (λ text. text_said line text d) at h
item_said Players line field d at (inl h) = number_said line h.0 1 PLAYER_LIMIT d (inr (field, at, h.1)) h.2
item_said Players line field d at (inr h) = order_said line field d at h
item_said (Row players) line field d at h = parts_said IsFaultOfCell players players line field d (λ text piece fault. text_said line text d piece fault.1) at h

pub fields_said : (items : List Item) (line : List ℕ) (d : Diagnosis) → IsFaultOfFields items line d → IsTrueInside line d
fields_said items line d (inl h) = item_said h.item line h.field d (h.place, h.stands.0, h.stands.1) h.fault
fields_said items line d (inr h) = count_said line (length items) d h

pub path_said : (players : ℕ) (line : List ℕ) (d : Diagnosis) → IsFaultOfPath players line d → IsTrueInside line d
path_said players line d (inl h) = length_said line 1 PATH_LIMIT (length (fields line)) d (inl refl) h
path_said players line d (inr h) = item_said (Row players) line h.0 d h.1 h.2

-- of the line with this number
pub line_said : (text : List ℕ) (number : ℕ) (line : List ℕ) (d : Diagnosis) → Lacks 10 line → slice_get (lines_of text) (number - 1) ≡ Some (ended line) → IsTrueOf line d → IsSaidOf text number d
line_said text number line Missing lacks at h = absurd h
line_said text number line Unended lacks at h = absurd h
line_said text number line d lacks at h = (line, lacks, at, h)
