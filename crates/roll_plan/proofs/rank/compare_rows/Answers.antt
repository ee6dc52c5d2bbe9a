use Rattle.std.proofs.Common.{sym, ap, ◌∙◌, ◌++◌, ◌∷◌, []}
use Rattle.roll_plan.specs.Ranks.{path_named}
use Rattle.roll_plan.proofs.Ranking.{above_apart, level_last, level_met, level_more, path_above}
use Rattle.roll_plan.proofs.rank.compare_rows.Goals as goal

pub loop-left-preserved : goal.loop-left-preserved
loop-left-preserved g c =
    let t = c.args.tree.now in
    let left = path_named t c.loop-left.left in
    let right = path_named t c.loop-left.right in
    let one = c.in-Some-Some.one in
    let other = c.in-Some-Some.other in
    level_more (path_named t c.args.first) (path_named t c.args.second) left right (path_named t one.node) (path_named t other.node) one.row other.row c.loop-left.invariant
    (path_above t left one c.in-Some-Some.ensures) (path_above t right other c.in-Some-Some.ensures')
    (λ same. c.if-one-other.false (above_apart t left right one other c.laws.ensures.distinct c.in-Some-Some.ensures c.in-Some-Some.ensures' same))

pub returns-then-one-other : goal.returns-then-one-other
returns-then-one-other g c =
    let t = c.args.tree.now in
    let left = path_named t c.loop-left.left in
    let right = path_named t c.loop-left.right in
    let one = c.in-Some-Some.one in
    let other = c.in-Some-Some.other in
    c.cmp.ensures
    ∙ sym (level_last (path_named t c.args.first) (path_named t c.args.second) left right (path_named t one.node) one.row other.row c.loop-left.invariant
    (path_above t left one c.in-Some-Some.ensures) (path_above t right other c.in-Some-Some.ensures' ∙ ap (λ n. path_named t n ++ other.row ∷ []) (sym c.if-one-other.true)))

pub returns-after-loop-left : goal.returns-after-loop-left
returns-after-loop-left g c =
    let t = c.args.tree.now in
    sym (level_met (path_named t c.args.first) (path_named t c.args.second) (path_named t c.loop-left.left) (path_named t c.loop-left.right) c.loop-left.invariant (ap (path_named t) c.loop-left-test.false))
