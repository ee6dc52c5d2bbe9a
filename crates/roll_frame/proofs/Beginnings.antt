-- Rows that others begin with.
use Rattle.std.proofs.Common.{◌≡◌, ◌≤◌, List, [], ◌∷◌, ◌++◌, length, length-take, take, Bool, true, false, refl, ap, arith}
use Rattle.roll_frame.specs.Cells.{Rows}
use Rattle.roll_frame.specs.Impls.Equal.{row_eq-Decides, rows_eq-Decides}
use Rattle.roll_frame.specs.Paths.{begins_with, longest}

-- rows begin with their own first rows, and with no others
pub begins_is : (q p : Rows) → begins_with q p ≡ true → p ≡ take (length p) q
begins_is q p h = (rows_eq-Decides p (take (length p) q)).0 h

pub begins : (q p : Rows) → p ≡ take (length p) q → begins_with q p ≡ true
begins q p e = (rows_eq-Decides p (take (length p) q)).1 e

-- rows behind the same rows begin with one another as they do without these
pub begins-behind : (front rows others : Rows) → begins_with (front ++ rows) (front ++ others) ≡ begins_with rows others
begins-behind [] rows others = refl
begins-behind (row ∷ front) rows others = rw ((row_eq-Decides row row).1 refl) (begins-behind front rows others)

-- none of the paths that the rows begin with is longer than the rows
pub longest_within : (paths : List Rows) (rows : Rows) → longest paths rows ≤ length rows
longest_within [] rows = omega arith
longest_within (p ∷ paths) rows = go (begins_with rows p) refl (longest_within paths rows)
  where
    go : (b : Bool) → begins_with rows p ≡ b → longest paths rows ≤ length rows → longest (p ∷ paths) rows ≤ length rows
    go true e ih = let short = ap (λ (l : Rows). length l) (begins_is rows p e) in rw e (omega (arith, ih, short, length-take (length p) rows))
    go false e ih = rw e ih
