use Rattle.std.proofs.Common.{is_some, rules, sym, ◌∙◌}
use Rattle.std.proofs.lemmas.Fn.{filter_same}
use Rattle.slab.specs.Slab.{get}
use Rattle.roll_tree.proofs.Prunes.{IsPruned-from, IsPruned-none}
use Rattle.roll_tree.proofs.prune.prune.Goals as goal

pub returns-then-keeps_all-clause-pruned : goal.returns-then-keeps_all-clause-pruned
returns-then-keeps_all-clause-pruned g c = λ live is.
    IsPruned-none c.args.nodes.now c.args.order.now.items live (rw c.deref.ensures.value at (sym (c.keeps_all.ensures live is) ∙ c.if-keeps_all.true))

pub returns-clause-pruned : goal.returns-clause-pruned
returns-clause-pruned g c = λ live is.
    IsPruned-from c.args.top c.args.rule.now c.args.nodes.now c.take_out.new.nodes c.args.order.now.items c.retain.new.self.items live c.requires
    (rw c.deref-2.ensures.value at (c.take_out.ensures.nodes live is)) (rw c.deref-2.ensures.value at (c.take_out.ensures.counted live is))
    (filter_same _ (λ name. is_some (get c.take_out.new.nodes name)) _ (λ x b f' r. search rules) c.args.order.now.items c.retain.new.self.items c.retain.ensures.filtered)
