-- Cells, rows and paths, and when they are equal.
use Rattle.std.specs.Prelude.{List, Bool, true, false, nat_eq, ◌&&◌}
use Rattle.std.specs.Cmp.Lexicographic.{pointwise}
use Rattle.roll_frame.specs.declared.row.Cell.{Cell}
use Rattle.roll_frame.specs.declared.row.Cell.TheVariants.{Word, Gone}
use Rattle.roll_frame.specs.declared.path.Path.{Path}

-- rows, one for each frame. Rows from frame 0 on are a path
abbrev pub Rows : Type 0
Rows = List (List Cell)

abbrev pub cell_eq : Cell → Cell → Bool
cell_eq (Word v) (Word w) = nat_eq v w
cell_eq (Word v) Gone = false
cell_eq Gone (Word w) = false
cell_eq Gone Gone = true

abbrev pub row_eq : List Cell → List Cell → Bool
row_eq = pointwise cell_eq

abbrev pub rows_eq : Rows → Rows → Bool
rows_eq = pointwise row_eq

abbrev pub path_eq : Path → Path → Bool
path_eq p q = nat_eq p.base q.base && rows_eq p.rows.items q.rows.items
