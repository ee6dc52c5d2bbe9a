-- The orders of cells, rows and paths.
use Rattle.std.specs.Prelude.{ℕ, ◌+◌, List, [], ◌∷◌, length, if◌then◌else◌}
use Rattle.std.specs.Cmp.Lexicographic.{slice_cmp}
use Rattle.std.specs.Ordering.{nat_cmp, on, then_cmp, is_lt}
use Rattle.std.specs.declared.cmp.Ordering.{Ordering}
use Rattle.roll_frame.specs.declared.row.Cell.{Cell}
use Rattle.roll_frame.specs.declared.path.Path.{Path}
use Rattle.roll_frame.specs.Words.{word_of, bit_of}
use Rattle.roll_frame.specs.Cells.{Rows}

-- the smaller word first, and at the same word not gone before gone
abbrev pub cell_cmp : Cell → Cell → Ordering
cell_cmp = then_cmp (on word_of nat_cmp) (on bit_of nat_cmp)

-- the least player whose cells differ decides
abbrev pub row_cmp : List Cell → List Cell → Ordering
row_cmp = slice_cmp cell_cmp

-- shorter first, and then the earliest row that differs decides
abbrev pub rows_cmp : Rows → Rows → Ordering
rows_cmp = then_cmp (on (λ (rows : Rows). length rows) nat_cmp) (slice_cmp row_cmp)

-- how many frames a path has, from frame 0
abbrev pub frames_of : Path → ℕ
frames_of p = p.base + length p.rows.items

-- fewer frames first, then the smaller base, and then the earliest row that differs decides
abbrev pub path_cmp : Path → Path → Ordering
path_cmp = then_cmp (then_cmp (on frames_of nat_cmp) (on (λ (p : Path). p.base) nat_cmp)) (on (λ (p : Path). p.rows.items) (slice_cmp row_cmp))

-- a path put before the first greater one
abbrev pub placed : Rows → List Rows → List Rows
placed path [] = path ∷ []
placed path (other ∷ others) = if is_lt (rows_cmp path other) then path ∷ other ∷ others else other ∷ placed path others

-- the paths in their order
abbrev pub in_order : List Rows → List Rows
in_order [] = []
in_order (path ∷ paths) = placed path (in_order paths)
