-- Rows of paths have a total order. Paths of the same base are ordered as their own rows are, and those that tie are the same.
use Rattle.std.proofs.Common.{◌≡◌, ℕ, ◌+◌, length, true, refl, ap, ◌∙◌, arith}
use Rattle.std.specs.Cmp.{IsTotalOrder, tied_itself}
use Rattle.std.specs.Cmp.Lexicographic.{slice_cmp}
use Rattle.std.specs.Ordering.{nat_cmp, is_eq, ordering_then}
use Rattle.std.specs.declared.cmp.Ordering.{Ordering}
use Rattle.std.specs.declared.cmp.Ordering.TheVariants.{Less, Equal, Greater}
use Rattle.std.proofs.lemmas.Bool.Decides.{nat_tests}
use Rattle.std.proofs.lemmas.Cmp.{on_total, then_total, lists_total, nat_cmp_total}
use Rattle.roll_frame.specs.declared.path.Path.{Path}
use Rattle.roll_frame.specs.Cells.{Rows}
use Rattle.roll_frame.specs.Claims.{path_from}
use Rattle.roll_frame.specs.Order.{row_cmp, rows_cmp, path_cmp}
use Rattle.roll_frame.specs.Impls.Equal.{path_eq-Decides}
use Rattle.roll_frame.specs.Impls.Total.{row_cmp_total}
use Rattle.roll_frame.specs.Impls.Ties.{path_cmp_ties}

pub rows_cmp_total : IsTotalOrder rows_cmp
rows_cmp_total = then_total (on_total (λ (rows : Rows). length rows) nat_cmp_total) (lists_total row_cmp_total)

pub nat_cmp-plus : (base m n : ℕ) → nat_cmp (base + m) (base + n) ≡ nat_cmp m n
nat_cmp-plus base m n = grind (arith, nat_tests)

then_Equal : (o p : Ordering) → ordering_then (ordering_then o Equal) p ≡ ordering_then o p
then_Equal Less p = refl
then_Equal Equal p = refl
then_Equal Greater p = refl

pub path_cmp-same_base : (p q : Path) → p.base ≡ q.base → path_cmp p q ≡ rows_cmp p.rows.items q.rows.items
path_cmp-same_base p q e =
    rw (e, nat_cmp-plus q.base (length p.rows.items) (length q.rows.items), tied_itself nat_cmp_total q.base) (then_Equal (nat_cmp (length p.rows.items) (length q.rows.items)) (slice_cmp row_cmp p.rows.items q.rows.items))

pub same_path : (p q : Path) → is_eq (path_cmp p q) ≡ true → p ≡ q
same_path p q e = (path_eq-Decides p q).0 (path_cmp_ties p q ∙ e)

pub same_rows : (p q : Rows) → is_eq (rows_cmp p q) ≡ true → p ≡ q
same_rows p q e = ap (λ (path : Path). path.rows.items) (same_path (path_from 0 p) (path_from 0 q) (ap is_eq (path_cmp-same_base (path_from 0 p) (path_from 0 q) refl) ∙ e))
