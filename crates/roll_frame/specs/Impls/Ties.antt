-- What an order does not tell apart is equal.
use Rattle.std.specs.Prelude.{◌≡◌, List, Bool, true, false, nat_eq, refl}
use Rattle.std.specs.Cmp.{both_ways, tied_itself, unsigned_ties}
use Rattle.std.specs.Cmp.Lexicographic.{slice_cmp, lists_ties}
use Rattle.std.specs.Ordering.{nat_cmp, is_eq, eq_by_cmp, ordering_then}
use Rattle.std.specs.declared.cmp.Ordering.{Ordering}
use Rattle.std.specs.declared.cmp.Ordering.TheVariants.{Less, Equal, Greater}
use Rattle.std.proofs.Common.{ap, sym, ◌∙◌}
use Rattle.std.proofs.lemmas.Bool.{and_from}
use Rattle.roll_frame.specs.declared.row.Cell.{Cell}
use Rattle.roll_frame.specs.declared.row.Cell.TheVariants.{Word, Gone}
use Rattle.roll_frame.specs.declared.path.Path.{Path}
use Rattle.roll_frame.specs.Cells.{Rows, cell_eq, row_eq, rows_eq, path_eq}
use Rattle.roll_frame.specs.Impls.Equal.{path_eq-Decides}
use Rattle.roll_frame.specs.Order.{cell_cmp, row_cmp, path_cmp, frames_of}
use Rattle.roll_frame.specs.Impls.Total.{path_cmp_total}

then_Equal : (o : Ordering) → is_eq (ordering_then o Equal) ≡ is_eq o
then_Equal Less = refl
then_Equal Equal = refl
then_Equal Greater = refl

then_Less : (o : Ordering) → is_eq (ordering_then o Less) ≡ false
then_Less Less = refl
then_Less Equal = refl
then_Less Greater = refl

then_Greater : (o : Ordering) → is_eq (ordering_then o Greater) ≡ false
then_Greater Less = refl
then_Greater Equal = refl
then_Greater Greater = refl

cell_eq_ties : (c d : Cell) → cell_eq c d ≡ eq_by_cmp cell_cmp c d
cell_eq_ties (Word v) (Word w) = unsigned_ties v w ∙ sym (then_Equal (nat_cmp v w))
cell_eq_ties (Word v) Gone = sym (then_Less (nat_cmp v 0))
cell_eq_ties Gone (Word w) = sym (then_Greater (nat_cmp 0 w))
cell_eq_ties Gone Gone = refl

-- the same of a test that answers so at each pair of variants
pub cell_cmp_ties : (test : Cell → Cell → Bool) → ((v w : _) → test (Word v) (Word w) ≡ nat_eq v w) → ((v : _) → test (Word v) Gone ≡ false) → ((w : _) → test Gone (Word w) ≡ false) → test Gone Gone ≡ true → (c d : Cell) → test c d ≡ eq_by_cmp cell_cmp c d
cell_cmp_ties test words first second both (Word v) (Word w) = words v w ∙ cell_eq_ties (Word v) (Word w)
cell_cmp_ties test words first second both (Word v) Gone = first v ∙ cell_eq_ties (Word v) Gone
cell_cmp_ties test words first second both Gone (Word w) = second w ∙ cell_eq_ties Gone (Word w)
cell_cmp_ties test words first second both Gone Gone = both

pub row_cmp_ties : (r s : List Cell) → row_eq r s ≡ eq_by_cmp row_cmp r s
row_cmp_ties = lists_ties cell_cmp cell_eq_ties

rows_ties : (p q : Rows) → rows_eq p q ≡ eq_by_cmp (slice_cmp row_cmp) p q
rows_ties = lists_ties row_cmp row_cmp_ties

last_two : (a b c : Ordering) → is_eq (ordering_then (ordering_then a b) c) ≡ true → (is_eq b ≡ true) × (is_eq c ≡ true)
last_two Less b c h = (cc, cc)
last_two Equal Less c h = (cc, cc)
last_two Equal Equal c h = (refl, h)
last_two Equal Greater c h = (cc, cc)
last_two Greater b c h = (cc, cc)

pub path_cmp_ties : (p q : Path) → path_eq p q ≡ eq_by_cmp path_cmp p q
path_cmp_ties p q =
    both_ways (path_eq p q) (eq_by_cmp path_cmp p q)
    (λ h. ap is_eq (sym (ap (path_cmp p) ((path_eq-Decides p q).0 h)) ∙ tied_itself path_cmp_total p))
    (λ h.
    let t = last_two (nat_cmp (frames_of p) (frames_of q)) (nat_cmp p.base q.base) (slice_cmp row_cmp p.rows.items q.rows.items) h in
    and_from (nat_eq p.base q.base) (rows_eq p.rows.items q.rows.items) (unsigned_ties p.base q.base ∙ t.0) (rows_ties p.rows.items q.rows.items ∙ t.1))
