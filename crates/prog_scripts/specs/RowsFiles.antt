-- Files of rows, for sync tests.
use Rattle.std.specs.Prelude.{ℕ, List, ◌∷◌, codes, map}
use Rattle.std.specs.List.{AllByRecursion}
use Rattle.roll_cert.specs.Reading.{IsWithin}
use Rattle.roll_cert.specs.Texts.{IsRowOf, named, row_line}
use Rattle.roll_frame.specs.Cells.{Rows}
use Rattle.roll_text.specs.Text.{Spells}
use Rattle.prog_scripts.specs.declared.rows_file.RowsFile.{RowsFile as RowsRead}

-- what a file says: how many players, and the rows
pub record RowsFile : Type 0 where
  pub players : ℕ
  pub rows : Rows

abbrev pub file_of : RowsRead → RowsFile
file_of file = record { players = file.players; rows = file.rows.items }

-- 1 to 4 players
abbrev pub IsCount : ℕ → Type 0
IsCount players = IsWithin 1 4 players

pub record IsRowsFile (file : RowsFile) : Type 0 where
  pub count : IsCount file.players
  pub rows : AllByRecursion (IsRowOf file.players) file.rows

abbrev pub rows_header : ℕ → List ℕ
rows_header players = named (codes "rolltest 1 players ") players

-- its lines: the header's, and one for each row
abbrev pub file_lines : RowsFile → List (List ℕ)
file_lines file = rows_header file.players ∷ map row_line file.rows

-- the texts of files
abbrev pub IsRowsText : List ℕ → Type 0
IsRowsText text = Spells IsRowsFile file_lines text
