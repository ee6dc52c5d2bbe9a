use Rattle.std.proofs.Common.{◌≡◌, subst, List, ℕ, Bool, rules, ◌∙◌}
use Rattle.std.specs.List.Sorted.{IsPermutation}
use Rattle.std.specs.Ordering.{is_lt}
use Rattle.std.proofs.lemmas.Fn.{always_returns_same}
use Rattle.std.proofs.lemmas.List.Sorted.{ranks_by}
use Rattle.roll_frame.specs.Cells.{Rows}
use Rattle.roll_frame.specs.Order.{rows_cmp}
use Rattle.roll_frame.proofs.PathOrder.{rows_cmp_total}
use Rattle.roll_tree.specs.SavedStates.{path_of}
use Rattle.roll_plan.specs.Ranks.{is_before, is_passed, path_named}
use Rattle.roll_plan.proofs.Ranking.{are_kept, counted_order, ranked_is}
use Rattle.roll_plan.proofs.rank.rank.Goals as goal

pub returns-clause-paths : goal.returns-clause-paths
returns-clause-paths g c =
    let t = c.args.tree.now in
    let passed : Rows → Bool = λ p. is_passed c.args.from c.args.to (path_of t.base p) in
    let names = c.sort_unstable_by.new.self.items in
    let moved = subst (λ (l : List ℕ). IsPermutation l names) c.list_passed-first.ensures.names c.sort_unstable_by.ensures.permutation in
    ranked_is t passed names c.laws.ensures.named moved
    (c.sort_unstable_by.ensures.sorted (λ a b. is_lt (rows_cmp (path_named t a) (path_named t b))) (ranks_by rows_cmp_total (path_named t)) (always_returns_same _ (λ a r. is_lt r ≡ is_lt (rows_cmp (path_named t a.0.now) (path_named t a.1.0.now))) _ (λ a r f' k. search rules)))

pub returns-clause-first : goal.returns-clause-first
returns-clause-first g c =
    let t = c.args.tree.now in
    c.list_passed-first.ensures.before ∙ counted_order t (λ p. is_before c.args.from (path_of t.base p))

pub returns-clause-kept : goal.returns-clause-kept
returns-clause-kept g c =
    let t = c.args.tree.now in
    let names = c.sort_unstable_by.new.self.items in
    are_kept t (λ p. is_passed c.args.from c.args.to (path_of t.base p)) names c.laws.ensures.named
    (subst (λ (l : List ℕ). IsPermutation l names) c.list_passed-first.ensures.names c.sort_unstable_by.ensures.permutation)
