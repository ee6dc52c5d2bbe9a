-- The text of a claim.
use Rattle.std.specs.Prelude.{◌≡◌, ℕ, ◌<◌, ◌≤◌, ◌^◌, List, [], ◌∷◌, ◌++◌, length, map, codes, nat_le, if◌then◌else◌}
use Rattle.std.specs.List.{AllByRecursion, join_with_byte}
use Rattle.std.specs.Fmt.{decimal}
use Rattle.roll_frame.specs.declared.limits.TheConstants.{FRAME_LIMIT, PATH_LIMIT, PLAYER_LIMIT, TREE_LIMIT}
use Rattle.roll_frame.specs.declared.path.Path.{Path}
use Rattle.roll_frame.specs.declared.refusal.Refusal.{Refusal}
use Rattle.roll_frame.specs.declared.refusal.Refusal.TheVariants.{Unreadable}
use Rattle.roll_frame.specs.declared.row.Cell.{Cell}
use Rattle.roll_frame.specs.declared.row.Cell.TheVariants.{Word, Gone}
use Rattle.roll_frame.specs.Cells.{Rows}
use Rattle.roll_frame.specs.declared.claim.Claim.{Claim}
use Rattle.roll_frame.specs.declared.claim.Differ.{Differ}
use Rattle.roll_text.specs.Numbers.{IsWord}
use Rattle.roll_text.specs.Streams.{IsBadAt}
use Rattle.roll_text.specs.Text.{Spells}

abbrev pub IsCell : Cell → Type 0
IsCell (Word word) = IsWord word
IsCell Gone = Unit {0}

-- a row of so many players
abbrev pub IsRowOf : ℕ → List Cell → Type 0
IsRowOf players row = (length row ≡ players) × AllByRecursion IsCell row

-- a path of this base, whose rows have so many players
abbrev pub IsPathOf : ℕ → ℕ → Path → Type 0
IsPathOf players base path = (path.base ≡ base) × (length path.rows.items ≤ PATH_LIMIT) × AllByRecursion (IsRowOf players) path.rows.items

abbrev pub IsEntry : Differ → Type 0
IsEntry entry = IsWord entry.state × IsWord entry.frame × (entry.player < 2 ^ 8)

-- the claims that have a text
pub record IsSized (claim : Claim) : Type 0 where
  pub some : 1 ≤ claim.players
  pub few : claim.players ≤ PLAYER_LIMIT
  pub base : claim.base ≤ FRAME_LIMIT
  pub from : IsWord claim.from
  pub short : length claim.time ≤ PATH_LIMIT
  pub time : AllByRecursion (IsRowOf claim.players) claim.time
  pub few_kept : length claim.kept ≤ TREE_LIMIT
  pub kept : AllByRecursion (IsPathOf claim.players claim.base) claim.kept
  pub few_entries : length claim.differs ≤ TREE_LIMIT
  pub differs : AllByRecursion IsEntry claim.differs

abbrev pub cell_text : Cell → List ℕ
cell_text (Word word) = decimal word
cell_text Gone = codes "x"

-- a comma, byte 44, stands between each two cells
abbrev pub row_line : List Cell → List ℕ
row_line row = join_with_byte 44 (map cell_text row)

-- a space, byte 32, stands between each two rows; there is a dash where there are none
abbrev pub rows_line : Rows → List ℕ
rows_line [] = codes "-"
rows_line (row ∷ rows) = join_with_byte 32 (map row_line (row ∷ rows))

abbrev pub path_line : Path → List ℕ
path_line path = rows_line path.rows.items

abbrev pub entry_fields : Differ → List (List ℕ)
entry_fields entry = decimal entry.state ∷ decimal entry.frame ∷ decimal entry.player ∷ []

abbrev pub entry_line : Differ → List ℕ
entry_line entry = join_with_byte 32 (entry_fields entry)

-- a number after its name, which ends in a space
abbrev pub named : List ℕ → ℕ → List ℕ
named name n = name ++ decimal n

-- how many there are, and a line for each
abbrev pub section : {A : Type 0} → List ℕ → (A → List ℕ) → List A → List (List ℕ)
section name spelling values = named name (length values) ∷ map spelling values

-- 1 for up to four players, else 2
abbrev pub version_of : ℕ → ℕ
version_of players = if nat_le players 4 then 1 else 2

-- a claim's first four lines
abbrev pub heading_lines : ℕ → ℕ → ℕ → List (List ℕ)
heading_lines players base from =
    named (codes "rollcert ") (version_of players)
    ∷ named (codes "players ") players
    ∷ named (codes "base ") base
    ∷ named (codes "from ") from
    ∷ []

-- a claim's lines, without their ends
abbrev pub claim_lines : Claim → List (List ℕ)
claim_lines claim =
    heading_lines claim.players claim.base claim.from
    ++ (section (codes "time ") row_line claim.time
    ++ (section (codes "kept ") path_line claim.kept
    ++ section (codes "differs ") entry_line claim.differs))

-- the texts of claims
abbrev pub IsClaimText : List ℕ → Type 0
IsClaimText text = Spells IsSized claim_lines text

-- the refusal names the line at which the text can't be read
abbrev pub IsUnreadable : Refusal → List ℕ → Type 0
IsUnreadable why text = (line : ℕ) × (why ≡ Unreadable line) × IsBadAt IsClaimText line text
