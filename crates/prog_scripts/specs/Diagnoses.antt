-- What is said of a line that can't be read.
use Rattle.std.specs.Prelude.{◌≡◌, ◌≢◌, ◌≤◌, ◌<◌, ◌+◌, ◌-◌, ◌^◌, ◌==◌, ◌⊎◌, ℕ, List, [], ◌∷◌, Some, true, false, codes, length, map, slice_get, slice_index, slice_index_or, take}
use Rattle.std.specs.Fmt.{decimal}
use Rattle.std.specs.List.{All, Contains, slice_split, zip}
use Rattle.std.specs.Str.{all_ascii_digits}
use Rattle.std.specs.Str.Parse.{digits_value}
use Rattle.roll_cert.specs.Reading.{IsWithin}
use Rattle.roll_frame.specs.declared.limits.TheConstants.{PATH_LIMIT, PLAYER_LIMIT}
use Rattle.roll_text.specs.Lines.{Lacks, ended, lines_of}
use Rattle.roll_text.specs.Numbers.{IsWord}
use Rattle.prog_scripts.specs.declared.command.Command.{Command}
use Rattle.prog_scripts.specs.declared.diagnosis.Diagnosis.{Diagnosis}
use Rattle.prog_scripts.specs.declared.diagnosis.Diagnosis.TheVariants.{Missing, Unended, CarriageReturn, Blank, ExtraSpace, AfterEnd, UnknownCommand, FieldCount, Word, Number, OutOfRange, ListLength, NotRising, Other}
use Rattle.prog_scripts.specs.declared.diagnosis.NumberFault.{NumberFault}
use Rattle.prog_scripts.specs.declared.diagnosis.NumberFault.TheVariants.{Empty, NotDigits, LeadingZero, TooLarge}
use Rattle.prog_scripts.specs.declared.lines.Item.{Item}
use Rattle.prog_scripts.specs.declared.lines.Item.TheVariants.{Word as AWord, Number as ANumber, List as AList, Players, Row}
use Rattle.prog_scripts.specs.declared.task.Task.{Task}
use Rattle.prog_scripts.specs.declared.task.Task.TheVariants.{Certify}
use Rattle.prog_scripts.specs.Commands.{fields_of}
use Rattle.prog_scripts.specs.Headers.{IsRising}

-- a line's fields: a space, byte 32, stands between each two
abbrev pub fields : List ℕ → List (List ℕ)
fields line = slice_split (λ b. b == 32) line

-- a field's parts: a comma, byte 44, stands between each two
abbrev pub parts : List ℕ → List (List ℕ)
parts field = slice_split (λ b. b == 44) field

abbrev pub IsOutside : ℕ → ℕ → ℕ → Type 0
IsOutside least most n = (n < least) ⊎ (most < n)

abbrev pub IsNoNumber : List ℕ → Type 0
IsNoNumber text = (n : ℕ) → IsWord n → text ≡ decimal n → ⊥

-- why a text is no number: no text has two of these
abbrev pub IsBecause : List ℕ → NumberFault → Type 0
IsBecause text Empty = text ≡ []
IsBecause text NotDigits = all_ascii_digits text ≡ false
IsBecause text LeadingZero =
    (all_ascii_digits text ≡ true) × (slice_index text 0 ≡ 48) × (1 < length text)
IsBecause text TooLarge =
    (all_ascii_digits text ≡ true) × (slice_index text 0 ≢ 48) × (2 ^ 32 ≤ digits_value 10 text)

-- a space at the line's beginning or end, or behind another; columns count from 1
abbrev pub IsExtraSpace : List ℕ → ℕ → Type 0
IsExtraSpace line column =
    (1 ≤ column) × (column ≤ length line) × (slice_index line (column - 1) ≡ 32)
    × ((column ≡ 1) ⊎ ((column ≡ length line) ⊎ (slice_index line (column - 2) ≡ 32)))

abbrev pub HasNoExtraSpace : List ℕ → Type 0
HasNoExtraSpace line = (column : ℕ) → IsExtraSpace line column → ⊥

-- the first of them
abbrev pub IsFirstExtraSpace : List ℕ → ℕ → Type 0
IsFirstExtraSpace line column =
    IsExtraSpace line column
    × ((before : ℕ) → before < column → IsExtraSpace line before → ⊥)

abbrev pub IsNumber : List ℕ → Type 0
IsNumber text = (n : ℕ) × IsWord n × (text ≡ decimal n)

abbrev pub IsNumberIn : ℕ → ℕ → List ℕ → Type 0
IsNumberIn least most text = (n : ℕ) × IsWord n × IsWithin least most n × (text ≡ decimal n)

-- a cell of a row: a word, or an x
abbrev pub IsCell : List ℕ → Type 0
IsCell text = (text ≡ codes "x") ⊎ IsNumber text

-- what a field has to be
abbrev pub IsFit : Item → List ℕ → Type 0
IsFit (AWord wanted) field = field ≡ wanted.now
IsFit (ANumber least most) field = IsNumberIn least most field
IsFit (AList least most) field =
    All IsNumber (parts field) × IsWithin least most (length (parts field))
IsFit Players field = (players : List ℕ) × IsRising 0 players × (parts field ≡ map decimal players)
IsFit (Row players) field =
    All IsCell (parts field) × IsWithin players players (length (parts field))

-- a path: `-`, or 1 to 24 rows
abbrev pub IsPathLine : ℕ → List ℕ → Type 0
IsPathLine players line =
    (line ≡ codes "-")
    ⊎ (All (IsFit (Row players)) (fields line) × IsWithin 1 PATH_LIMIT (length (fields line)))

abbrev pub IsFaultOfText : List ℕ → Diagnosis → Type 0
IsFaultOfText text (Number found why) = (found.now ≡ text) × IsNoNumber text × IsBecause text why
IsFaultOfText text diagnosis = ⊥

abbrev pub IsFaultOfCell : List ℕ → Diagnosis → Type 0
IsFaultOfCell text diagnosis = (text ≢ codes "x") × IsFaultOfText text diagnosis

abbrev pub IsFaultOfRange : ℕ → ℕ → ℕ → Diagnosis → Type 0
IsFaultOfRange least most n (OutOfRange found low high) =
    (found ≡ n) × (low ≡ least) × (high ≡ most) × IsOutside least most n
IsFaultOfRange least most n diagnosis = ⊥

abbrev pub IsFaultOfNumber : ℕ → ℕ → List ℕ → Diagnosis → Type 0
IsFaultOfNumber least most text diagnosis =
    IsFaultOfText text diagnosis
    ⊎ ((n : ℕ) × IsWord n × (text ≡ decimal n) × IsFaultOfRange least most n diagnosis)

abbrev pub IsFaultOfWord : List ℕ → List ℕ → Diagnosis → Type 0
IsFaultOfWord wanted field (Word found other) =
    (found.now ≡ field) × (other.now ≡ wanted) × (field ≢ wanted)
IsFaultOfWord wanted field diagnosis = ⊥

abbrev pub IsFaultOfLength : ℕ → ℕ → ℕ → Diagnosis → Type 0
IsFaultOfLength least most count (ListLength found low high) =
    (found ≡ count) × (low ≡ least) × (high ≡ most) × IsOutside least most count
IsFaultOfLength least most count diagnosis = ⊥

-- of one of these texts, or of their number
abbrev pub IsFaultOfList : (List ℕ → Diagnosis → Type 0) → ℕ → ℕ → List (List ℕ) → Diagnosis
    → Type 0
IsFaultOfList IsFault least most texts diagnosis =
    IsFaultOfLength least most (length texts) diagnosis
    ⊎ ((text : List ℕ) × Contains texts text × IsFault text diagnosis)

-- of a number that is no greater than the one before it
abbrev pub IsFaultOfOrder : List (List ℕ) → Diagnosis → Type 0
IsFaultOfOrder texts (NotRising found before) =
    (k : ℕ) × (k + 1 < length texts) × (slice_index_or texts k [] ≡ decimal before)
    × (slice_index_or texts (k + 1) [] ≡ decimal found) × (found ≤ before)
IsFaultOfOrder texts diagnosis = ⊥

-- what is wrong with a field that has to be this
abbrev pub IsFaultAs : Item → List ℕ → Diagnosis → Type 0
IsFaultAs (AWord wanted) field diagnosis = IsFaultOfWord wanted.now field diagnosis
IsFaultAs (ANumber least most) field diagnosis = IsFaultOfNumber least most field diagnosis
IsFaultAs (AList least most) field diagnosis =
    IsFaultOfList IsFaultOfText least most (parts field) diagnosis
IsFaultAs Players field diagnosis =
    ((part : List ℕ) × Contains (parts field) part
    × IsFaultOfNumber 1 PLAYER_LIMIT part diagnosis)
    ⊎ IsFaultOfOrder (parts field) diagnosis
IsFaultAs (Row players) field diagnosis =
    IsFaultOfList IsFaultOfCell players players (parts field) diagnosis

abbrev pub IsFaultOfPath : ℕ → List ℕ → Diagnosis → Type 0
IsFaultOfPath players line diagnosis =
    IsFaultOfList (IsFaultAs (Row players)) 1 PATH_LIMIT (fields line) diagnosis

-- what is wrong with one of a line's fields, each of which has to be the item at its place; those before it are
pub record IsFaultAt (items : List Item) (line : List ℕ) (diagnosis : Diagnosis) : Type 0 where
  pub place : ℕ
  pub item : Item
  pub field : List ℕ
  pub asked : (place < length items) × (slice_index_or items place item ≡ item)
  pub stands : (place < length (fields line)) × (slice_index_or (fields line) place field ≡ field)
  pub earlier :
      All (λ (pair : List ℕ × Item). IsFit pair.1 pair.0) (take place (zip (fields line) items))
  pub fault : IsFaultAs item field diagnosis

abbrev pub IsFaultOfCount : ℕ → ℕ → Diagnosis → Type 0
IsFaultOfCount wanted count (FieldCount found asked) =
    (found ≡ count) × (asked ≡ wanted) × (found ≢ wanted)
IsFaultOfCount wanted count diagnosis = ⊥

abbrev pub IsFaultOfFields : List Item → List ℕ → Diagnosis → Type 0
IsFaultOfFields items line diagnosis =
    IsFaultAt items line diagnosis
    ⊎ IsFaultOfCount (length items) (length (fields line)) diagnosis

-- the line's last byte is a CR
abbrev pub EndsInReturn : List ℕ → Type 0
EndsInReturn line = slice_get line (length line - 1) ≡ Some 13

-- one of its fields, or a part of one
abbrev pub IsPiece : List ℕ → List ℕ → Type 0
IsPiece line text =
    Contains (fields line) text
    ⊎ ((field : List ℕ) × Contains (fields line) field × Contains (parts field) text)

-- no command's first field is this
abbrev pub IsNoLetter : List ℕ → Type 0
IsNoLetter text = (command : Command) → slice_index_or (fields_of command) 0 [] ≡ text → ⊥

-- what is true of a line's fields where this is said of it
abbrev pub IsTrueInside : List ℕ → Diagnosis → Type 0
IsTrueInside line (UnknownCommand found) =
    (slice_index_or (fields line) 0 [] ≡ found.now) × IsNoLetter found.now
IsTrueInside line (FieldCount found wanted) = (found ≡ length (fields line)) × (found ≢ wanted)
IsTrueInside line (Word found wanted) = Contains (fields line) found.now × (found.now ≢ wanted.now)
IsTrueInside line (Number found why) =
    IsPiece line found.now × IsNoNumber found.now × IsBecause found.now why
IsTrueInside line (OutOfRange found least most) =
    IsPiece line (decimal found) × IsWord found × IsOutside least most found
IsTrueInside line (ListLength found least most) =
    ((found ≡ length (fields line))
    ⊎ ((field : List ℕ) × Contains (fields line) field × (found ≡ length (parts field))))
    × IsOutside least most found
IsTrueInside line (NotRising found before) =
    (field : List ℕ) × Contains (fields line) field
    × IsFaultOfOrder (parts field) (NotRising found before)
IsTrueInside line diagnosis = ⊥

-- a line of which nothing plainer can be said
pub record IsTidy (line : List ℕ) : Type 0 where
  pub no_return : EndsInReturn line → ⊥
  pub not_blank : line ≢ []
  pub no_extra : HasNoExtraSpace line

-- what is true of a line, given without its end, where this is said of it
abbrev pub IsTrueOf : List ℕ → Diagnosis → Type 0
IsTrueOf line Missing = ⊥
IsTrueOf line Unended = ⊥
IsTrueOf line CarriageReturn = EndsInReturn line
IsTrueOf line Blank = line ≡ []
IsTrueOf line (ExtraSpace column) = IsFirstExtraSpace line column
IsTrueOf line AfterEnd = IsTidy line
IsTrueOf line Other = IsTidy line
IsTrueOf line diagnosis = IsTidy line × IsTrueInside line diagnosis

-- what is true of the line with this number, from 1, where this is said of it
abbrev pub IsSaidOf : List ℕ → ℕ → Diagnosis → Type 0
IsSaidOf text number Missing = length (lines_of text) ≤ number - 1
IsSaidOf text number Unended =
    (rest : List ℕ) × Lacks 10 rest × (slice_get (lines_of text) (number - 1) ≡ Some rest)
IsSaidOf text number diagnosis =
    (line : List ℕ) × Lacks 10 line
    × (slice_get (lines_of text) (number - 1) ≡ Some (ended line)) × IsTrueOf line diagnosis

-- the forms of a command's fields
abbrev pub IsCommandForm : List (List ℕ) → Type 0
IsCommandForm (letter ∷ []) = (letter ≡ codes "S") ⊎ ((letter ≡ codes "A") ⊎ (letter ≡ codes "C"))
IsCommandForm (letter ∷ number ∷ []) =
    ((letter ≡ codes "D") ⊎ (letter ≡ codes "B")) × IsNumber number
IsCommandForm (letter ∷ player ∷ word ∷ []) = (letter ≡ codes "L") × IsNumber player × IsNumber word
IsCommandForm (letter ∷ player ∷ frame ∷ values ∷ []) =
    (((letter ≡ codes "R") × IsNumber values)
    ⊎ ((letter ≡ codes "G")
    × (All IsNumber (parts values) × IsWithin 1 PATH_LIMIT (length (parts values)))))
    × IsNumber player × IsNumber frame
IsCommandForm fields = ⊥

-- the line with this number, from 1, has one
abbrev pub IsCommandLine : ℕ → List ℕ → Type 0
IsCommandLine number text =
    (line : List ℕ) × (slice_get (lines_of text) (number - 1) ≡ Some (ended line))
    × IsCommandForm (fields line)

-- only a claim ends before a line
abbrev pub IsOfTask : Task → Diagnosis → Type 0
IsOfTask task diagnosis = diagnosis ≡ AfterEnd → task ≡ Certify
