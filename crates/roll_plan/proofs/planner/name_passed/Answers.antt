use Rattle.std.proofs.Common.{◌+◌, ◌≤◌, ap, length, ◌∙◌}
use Rattle.std.proofs.lemmas.List.Elements.{recursion_from_All}
use Rattle.std.proofs.lemmas.List.Sorted.{All-permutation, IsPermutation-sym, IsPermutation-trans}
use Rattle.roll_frame.specs.Cells.{Rows}
use Rattle.roll_frame.specs.Order.{in_order}
use Rattle.roll_frame.proofs.Sorting.{order_permutes}
use Rattle.roll_tree.specs.SavedStates.{path_of, paths_of}
use Rattle.roll_plan.specs.Ranks.{entries_by, entry_by_marks, path_named}
use Rattle.roll_plan.specs.Spelled.{beginnings}
use Rattle.roll_plan.proofs.Beginnings.{ends_low}
use Rattle.roll_plan.proofs.Climbing.{all_on_way}
use Rattle.roll_plan.proofs.Passing.{entries_passed, no_entries}
use Rattle.roll_plan.proofs.planner.name_passed.Goals as goal

pub returns-then-are_on_way-clause-entries : goal.returns-then-are_on_way-clause-entries
returns-then-are_on_way-clause-entries g c =
    let t = c.args.tree.now in
    let way = path_named t c.args.start in
    let count = c.are_on_way.ensures.0 c.if-are_on_way.true in
    let P : Rows → Type 0 = λ p. t.base + length p ≤ c.args.from in
    let moved = IsPermutation-trans (beginnings way (length way + 1)) (paths_of t) (in_order (paths_of t)) (IsPermutation-sym (paths_of t) (beginnings way (length way + 1)) (all_on_way t c.args.start c.requires.kept c.laws.ensures.closed count)) (order_permutes (paths_of t)) in
    let low = All-permutation P (beginnings way (length way + 1)) (in_order (paths_of t)) moved (ends_low t.base c.args.from way (length way + 1) c.requires.from) in
    c.clear.ensures.items ∙ no_entries t c.args.from c.args.to 0 (in_order (paths_of t)) (recursion_from_All P (in_order (paths_of t)) low)

pub returns-else-are_on_way-clause-entries : goal.returns-else-are_on_way-clause-entries
returns-else-are_on_way-clause-entries g c =
    let t = c.args.tree.now in
    c.name_differs.ensures.entries
    ∙ ap (entries_by (λ state name. entry_by_marks t state (path_of t.base (path_named t name))) c.rank-first.result) c.deref.ensures.value
    ∙ entries_passed t c.args.from c.args.to c.rank-first.new.ranked.items c.rank-first.result c.rank-first.ensures.paths c.rank-first.ensures.first
