use Rattle.std.proofs.Common.{◌≡◌, ◌+◌, ◌++◌, ◌∷◌, [], length, length-append, append-nil, sym, ap, ◌∙◌, arith, true, false}
use Rattle.std.specs.Prelude.{option_map}
use Rattle.std.proofs.lemmas.Option.{same_Some}
use Rattle.roll_tree.specs.SavedStates.{Saved, SavedStates}
use Rattle.roll_plan.proofs.Passing.{at_most, before_more, between, names_more, not_at_most, not_behind, not_within}
use Rattle.roll_plan.proofs.Ranking.{is_held, state_at}
use Rattle.roll_plan.proofs.rank.list_passed.Goals.{then-end-from, else-end-from+then-end-to, else-end-from+else-end-to}
use Rattle.roll_plan.proofs.rank.list_passed.Goals as goal

pub end-end-requires : goal.end-end-requires
end-end-requires g c =
    let names = c.names-node-items.result.now in
    is_held c.args.tree.now names c.loop-node.node-index (state_at c.args.tree.now c.laws.ensures.named names c.names-node-items.ensures c.loop-node.node-index c.loop-node-test.true)

pub loop-node-preserved : goal.loop-node-preserved
loop-node-preserved g c =
    let t : SavedStates g.row.S.Denot = c.args.tree.now in
    let from = c.args.from in
    let to = c.args.to in
    let k = c.loop-node.node-index in
    let old = c.loop-node.invariant in
    let at = state_at t c.laws.ensures.named c.names-node-items.result.now c.names-node-items.ensures k c.loop-node-test.true in
    let s = at.state in
    let end : t.base + length s.path ≡ c.end-end.result = same_Some _ _ (sym (ap (option_map (λ (u : Saved g.row.S.Denot). t.base + length u.path)) at.held_is) ∙ c.end-end.ensures) in
    elim c.if-end-from.branch [
      | then-end-from w ↦
          let passed = not_behind from to (t.base + length s.path) (omega (arith, end, w.if-end-from.true)) in
          let before = at_most (t.base + length s.path) from (omega (arith, end, w.if-end-from.true)) in
          rw (w.passed-is, w.before-is) (record {
            names = sym (names_more t from to k s false at.more passed ∙ append-nil _ ∙ sym old.names);
            before = ap (λ n. n + 1) old.before ∙ sym (before_more t from to k s true at.more before);
            few = omega (arith, old.few);
            room = old.room;
          })
      | else-end-from+then-end-to w ↦
          let passed = between from to (t.base + length s.path) (omega (arith, end, w.if-end-from.false)) (omega (arith, end, w.if-end-to.true)) in
          let before = not_at_most (t.base + length s.path) from (omega (arith, end, w.if-end-from.false)) in
          let pushed = w.push_reserved.ensures.items in
          rw (w.passed-is, w.before-is) (record {
            names = pushed ∙ (λ i. old.names i ++ at.name_is i ∷ []) ∙ sym (names_more t from to k s true at.more passed);
            before = omega (arith, old.before, before_more t from to k s false at.more before);
            few = omega (arith, old.few, ap length pushed, length-append c.loop-node.passed.items (s.name ∷ []));
            room = omega (arith, w.push_reserved.ensures.capacity, old.room);
          })
      | else-end-from+else-end-to w ↦
          let passed = not_within from to (t.base + length s.path) (omega (arith, end, w.if-end-to.false)) in
          let before = not_at_most (t.base + length s.path) from (omega (arith, end, w.if-end-from.false)) in
          rw (w.passed-is, w.before-is) (record {
            names = sym (names_more t from to k s false at.more passed ∙ append-nil _ ∙ sym old.names);
            before = omega (arith, old.before, before_more t from to k s false at.more before);
            few = omega (arith, old.few);
            room = old.room;
          })
    ]
