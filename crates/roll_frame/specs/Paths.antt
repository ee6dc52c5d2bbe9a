-- Paths, the longest saved prefix, and the value that a path leads to.
use Rattle.std.specs.Prelude.{ℕ, zero, suc, ◌+◌, List, [], ◌∷◌, ◌++◌, length, take, max, Bool, if◌then◌else◌, fold}
use Rattle.std.specs.List.{starts_with, list_any}
use Rattle.roll_frame.specs.declared.row.Cell.{Cell}
use Rattle.roll_frame.specs.Cells.{Rows, row_eq, rows_eq}

-- whether the rows q begin with p
abbrev pub begins_with : Rows → Rows → Bool
begins_with q p = starts_with row_eq q p

-- whether a path is one of these
abbrev pub contains : List Rows → Rows → Bool
contains paths path = list_any (rows_eq path) paths

-- the length of the longest of these paths that q begins with, or 0 where it begins with none
abbrev pub longest : List Rows → Rows → ℕ
longest [] q = 0
longest (p ∷ ps) q = if begins_with q p then max (length p) (longest ps q) else longest ps q

-- the first k prefixes of q that are longer than d, shorter first
abbrev pub prefixes : Rows → ℕ → ℕ → List Rows
prefixes q d zero = []
prefixes q d (suc k) = prefixes q d k ++ take (d + suc k) q ∷ []

-- the value that the rows lead to from x
abbrev pub run : {V : Type 0} → (V → List Cell → V) → V → Rows → V
run step x rows = fold step x rows
