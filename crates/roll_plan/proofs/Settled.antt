-- Paths on the same settled rows: their order.
use Rattle.std.proofs.Common.{◌≡◌, ◌+◌, List, [], ◌∷◌, ◌++◌, length, length-append, map, true, refl, ap, subst, ◌∙◌}
use Rattle.std.specs.Cmp.Lexicographic.{slice_cmp}
use Rattle.std.specs.Ordering.{nat_cmp, is_lt, ordering_then}
use Rattle.std.specs.declared.cmp.Ordering.{Ordering}
use Rattle.std.proofs.lemmas.Cmp.{tied_itself}
use Rattle.roll_frame.specs.Cells.{Rows}
use Rattle.roll_frame.specs.Order.{row_cmp, rows_cmp, in_order}
use Rattle.roll_frame.specs.Impls.Total.{row_cmp_total}
use Rattle.roll_frame.proofs.PathOrder.{rows_cmp_total, nat_cmp-plus, same_rows}
use Rattle.roll_frame.proofs.Sorting.{order_permutes, order_sorted, sorted-map, sorted_once}
use Rattle.std.proofs.lemmas.List.Sorted.{IsPermutation-map, IsPermutation-sym, IsPermutation-trans}

-- a path on the settled rows
abbrev pub on : Rows → Rows → Rows
on settled path = settled ++ path

rows_on : (settled p q : Rows) → slice_cmp row_cmp (on settled p) (on settled q) ≡ slice_cmp row_cmp p q
rows_on [] p q = refl
rows_on (row ∷ settled) p q =
    ap (λ (r : Ordering). ordering_then r (slice_cmp row_cmp (on settled p) (on settled q))) (tied_itself row_cmp_total row) ∙ rows_on settled p q

-- settled rows don't change an order
cmp_on : (settled p q : Rows) → rows_cmp (on settled p) (on settled q) ≡ rows_cmp p q
cmp_on settled p q =
    let lengths : nat_cmp (length (on settled p)) (length (on settled q)) ≡ nat_cmp (length p) (length q) =
    ap (λ n. nat_cmp n (length (on settled q))) (length-append settled p) ∙ ap (λ n. nat_cmp (length settled + length p) n) (length-append settled q) ∙ nat_cmp-plus (length settled) (length p) (length q) in
    ap (λ (r : Ordering). ordering_then r (slice_cmp row_cmp (on settled p) (on settled q))) lengths
    ∙ ap (λ (r : Ordering). ordering_then (nat_cmp (length p) (length q)) r) (rows_on settled p q)

pub order_on : (settled : Rows) (ps : List Rows) → in_order (map (on settled) ps) ≡ map (on settled) (in_order ps)
order_on settled ps =
    sorted_once rows_cmp rows_cmp_total same_rows (in_order (map (on settled) ps)) (map (on settled) (in_order ps)) (order_sorted (map (on settled) ps))
    (sorted-map (on settled) rows_cmp rows_cmp (λ p q e. subst (λ (r : Ordering). is_lt r ≡ true) (cmp_on settled p q) e) (in_order ps) (order_sorted ps))
    (IsPermutation-trans (in_order (map (on settled) ps)) (map (on settled) ps) (map (on settled) (in_order ps))
    (IsPermutation-sym (map (on settled) ps) (in_order (map (on settled) ps)) (order_permutes (map (on settled) ps))) (IsPermutation-map (on settled) ps (in_order ps) (order_permutes ps)))
