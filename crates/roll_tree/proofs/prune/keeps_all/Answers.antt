use Rattle.std.proofs.Common.{[], refl, sym, ◌∙◌}
use Rattle.roll_tree.proofs.Prunes.{ordered_at, all_with_top, all_with_edge, not_all}
use Rattle.roll_tree.proofs.prune.keeps_all.Goals as goal

pub index-requires : goal.index-requires
index-requires g c = rw (ordered_at c.args.nodes.now.slots [] c.args.order.now c.requires c.loop-name.name-index c.loop-name-test.true).node_is refl

pub loop-name-preserved-then-name-top : goal.loop-name-preserved-then-name-top
loop-name-preserved-then-name-top g c = λ live is.
    all_with_top c.args.top c.args.rule.now c.args.nodes.now.slots c.args.order.now c.requires c.loop-name.name-index c.loop-name-test.true live is (c.loop-name.invariant live is) c.if-name-top.true

pub loop-name-preserved : goal.loop-name-preserved
loop-name-preserved g c = λ live is.
    all_with_edge c.args.top c.args.rule.now c.args.nodes.now.slots c.args.order.now c.requires c.loop-name.name-index c.loop-name-test.true live is (c.loop-name.invariant live is)
    c.if-name-top.false c.index.result.now c.index.ensures (sym c.allows_edge.ensures ∙ c.if-not-allows_edge.false)

pub returns-then-not-allows_edge : goal.returns-then-not-allows_edge
returns-then-not-allows_edge g c = λ live is.
    sym (not_all c.args.top c.args.rule.now c.args.nodes.now.slots c.args.order.now c.requires c.loop-name.name-index c.loop-name-test.true live is (c.loop-name.invariant live is)
    c.if-name-top.false c.index.result.now c.index.ensures (sym c.allows_edge.ensures ∙ c.if-not-allows_edge.true))
