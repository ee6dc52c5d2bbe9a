-- The tests of cells, rows and paths decide whether they are equal.
use Rattle.std.specs.Prelude.{◌≡◌, List, nat_eq, refl}
use Rattle.std.specs.Bool.{Decides}
use Rattle.std.specs.Cmp.{IsEquivalence, decided}
use Rattle.std.proofs.Common.{ap}
use Rattle.std.proofs.lemmas.Bool.Decides.{Decides-and, Decides-eqb, Decides-like}
use Rattle.std.proofs.lemmas.Slice.Eq.{slice_eq-Decides}
use Rattle.roll_frame.specs.declared.row.Cell.{Cell}
use Rattle.roll_frame.specs.declared.row.Cell.TheVariants.{Word, Gone}
use Rattle.roll_frame.specs.declared.path.Path.{Path}
use Rattle.roll_frame.specs.Cells.{Rows, cell_eq, row_eq, rows_eq, path_eq}

pub cell_eq-Decides : (c d : Cell) → Decides (cell_eq c d) (c ≡ d)
cell_eq-Decides (Word v) (Word w) = (λ h. ap Word ((Decides-eqb v w).0 h), λ e. (Decides-eqb v w).1 (cc))
cell_eq-Decides (Word v) Gone = (λ h. cc, λ e. cc)
cell_eq-Decides Gone (Word w) = (λ h. cc, λ e. cc)
cell_eq-Decides Gone Gone = (λ h. refl, λ e. refl)

pub row_eq-Decides : (r s : List Cell) → Decides (row_eq r s) (r ≡ s)
row_eq-Decides r s = slice_eq-Decides cell_eq-Decides r s (row_eq r s) refl

pub rows_eq-Decides : (p q : Rows) → Decides (rows_eq p q) (p ≡ q)
rows_eq-Decides p q = slice_eq-Decides row_eq-Decides p q (rows_eq p q) refl

pub path_eq-Decides : (p q : Path) → Decides (path_eq p q) (p ≡ q)
path_eq-Decides p q =
    Decides-like (path_eq p q)
    (λ h i. record { base = h.0 i; rows = record { items = h.1 i } })
    (λ e. (ap (λ (r : Path). r.base) e, ap (λ (r : Path). r.rows.items) e))
    (Decides-and (nat_eq p.base q.base) (rows_eq p.rows.items q.rows.items) (Decides-eqb p.base q.base) (rows_eq-Decides p.rows.items q.rows.items))

pub row_eq-equiv : IsEquivalence row_eq
row_eq-equiv = decided row_eq row_eq-Decides
