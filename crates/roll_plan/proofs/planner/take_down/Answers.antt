use Rattle.std.proofs.Common.{List, sym, subst, ◌∙◌, ℕ}
use Rattle.std.specs.List.Sorted.{IsPermutation}
use Rattle.roll_tree.specs.SavedStates.{paths_of}
use Rattle.roll_plan.specs.Ranks.{path_named}
use Rattle.roll_plan.specs.Spelled.{all_paths, beginnings}
use Rattle.roll_plan.specs.declared.planner.Taken.{Taken}
use Rattle.roll_plan.proofs.Climbing.{all_on_way}
use Rattle.roll_plan.proofs.planner.take_down.Goals as goal

pub returns-then-are_on_way-clause-paths : goal.returns-then-are_on_way-clause-paths
returns-then-are_on_way-clause-paths g c =
    let t = c.args.tree.now in
    let way = path_named t c.args.start in
    let count = c.are_on_way.ensures.0 c.if-are_on_way.true in
    subst (λ (l : List Taken). IsPermutation (paths_of t) (all_paths way c.len.result l)) (sym c.clear.ensures.items)
    (subst (λ (n : ℕ). IsPermutation (paths_of t) (beginnings way n)) (sym (c.len.ensures.value ∙ count)) (all_on_way t c.args.start c.requires.kept c.laws.ensures.closed count))
