use Rattle.std.proofs.Common.{◌+◌, take, Bool, ℕ, refl, sym, ap, subst, ◌∙◌}
use Rattle.slab.specs.Slab.{Slab}
use Rattle.roll_tree.specs.Rule.{IsLive}
use Rattle.roll_tree.specs.declared.node.Node.{Node}
use Rattle.roll_tree.proofs.Prunes.{IsPart, IsPart-start, IsPart-stays, IsPart-goes, untouched, decided}
use Rattle.roll_tree.proofs.prune.take_out.Goals.{then-not-stays, else-not-stays}
use Rattle.roll_tree.proofs.prune.take_out.Goals as goal

pub loop-name-init : goal.loop-name-init
loop-name-init g c = record { part = IsPart-start c.args.top c.args.rule.now c.args.nodes.now; capacity = refl }

pub stays-requires : goal.stays-requires
stays-requires g c = rw (untouched c.args.top c.args.rule.now c.args.nodes.now c.loop-name.nodes c.args.order.now c.requires c.loop-name.name-index c.loop-name-test.true c.loop-name.invariant.part) refl

pub remove-requires : goal.remove-requires
remove-requires g c = rw (untouched c.args.top c.args.rule.now c.args.nodes.now c.loop-name.nodes c.args.order.now c.requires c.loop-name.name-index c.loop-name-test.true c.loop-name.invariant.part) refl

pub loop-name-preserved : goal.loop-name-preserved
loop-name-preserved g c =
    let right = decided c.args.top c.args.rule.now c.args.nodes.now c.loop-name.nodes c.args.order.now c.requires c.loop-name.name-index c.loop-name-test.true c.loop-name.invariant.part in
    elim c.if-not-stays.branch [
      | then-not-stays w ↦
          let dead = λ (live : ℕ → Bool) (is : IsLive c.args.top c.args.rule.now c.args.nodes.now.slots live). sym (right live is c.stays.result c.stays.ensures) ∙ w.if-not-stays.true in
          record {
            part = subst (λ (s : Slab (Node g.row.S.Denot)). IsPart c.args.top c.args.rule.now c.args.nodes.now s (take (c.loop-name.name-index + 1) c.args.order.now)) (sym w.nodes-is)
                (IsPart-goes c.args.top c.args.rule.now c.args.nodes.now c.loop-name.nodes w.remove.new.self c.args.order.now c.requires c.loop-name.name-index c.loop-name-test.true c.loop-name.invariant.part dead w.remove.ensures.updates.changed w.remove.ensures.updates.others w.remove.ensures.len);
            capacity = ap (λ (s : Slab (Node g.row.S.Denot)). s.capacity) w.nodes-is ∙ w.remove.ensures.capacity ∙ c.loop-name.invariant.capacity;
          }
      | else-not-stays w ↦
          let alive = λ (live : ℕ → Bool) (is : IsLive c.args.top c.args.rule.now c.args.nodes.now.slots live). sym (right live is c.stays.result c.stays.ensures) ∙ w.if-not-stays.false in
          record {
            part = subst (λ (s : Slab (Node g.row.S.Denot)). IsPart c.args.top c.args.rule.now c.args.nodes.now s (take (c.loop-name.name-index + 1) c.args.order.now)) (sym w.nodes-is)
                (IsPart-stays c.args.top c.args.rule.now c.args.nodes.now c.loop-name.nodes c.args.order.now c.requires c.loop-name.name-index c.loop-name-test.true c.loop-name.invariant.part alive);
            capacity = ap (λ (s : Slab (Node g.row.S.Denot)). s.capacity) w.nodes-is ∙ c.loop-name.invariant.capacity;
          }
    ]
