-- A list that is sorted and has the paths of another is that other in order.
use Rattle.std.proofs.Common.{◌≡◌, ℕ, List, map, true, refl, subst}
use Rattle.std.specs.List.Sorted.{IsPermutation, IsSorted}
use Rattle.std.specs.Ordering.{is_lt}
use Rattle.std.specs.declared.cmp.Ordering.{Ordering}
use Rattle.std.proofs.lemmas.List.Sorted.{IsPermutation-map, IsPermutation-sym, IsPermutation-trans}
use Rattle.roll_frame.specs.declared.path.Path.{Path}
use Rattle.roll_frame.specs.Cells.{Rows}
use Rattle.roll_frame.specs.Order.{rows_cmp, path_cmp, in_order}
use Rattle.roll_frame.specs.Impls.Total.{path_cmp_total}
use Rattle.roll_frame.proofs.PathOrder.{path_cmp-same_base, same_path}
use Rattle.roll_frame.proofs.Sorting.{order_permutes, order_sorted, sorted-map, sorted_once}
use Rattle.roll_tree.specs.SavedStates.{path_of}

pub sorted_is : (base : ℕ) (ps : List Rows) (ys : List Path) → IsPermutation (map (path_of base) ps) ys → IsSorted path_cmp ys → ys ≡ map (path_of base) (in_order ps)
sorted_is base ps ys moved sorted =
    sorted_once path_cmp path_cmp_total same_path ys (map (path_of base) (in_order ps)) sorted
    (sorted-map (path_of base) rows_cmp path_cmp (λ p q e. subst (λ (o : Ordering). is_lt o ≡ true) (path_cmp-same_base (path_of base p) (path_of base q) refl) e) (in_order ps) (order_sorted ps))
    (IsPermutation-trans ys (map (path_of base) ps) (map (path_of base) (in_order ps)) (IsPermutation-sym (map (path_of base) ps) ys moved) (IsPermutation-map (path_of base) ps (in_order ps) (order_permutes ps)))
