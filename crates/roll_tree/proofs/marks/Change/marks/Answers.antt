use Rattle.std.proofs.Common.{◌≡◌, ◌-◌, ap, ◌∙◌, arith, length}
use Rattle.std.specs.Prelude.{slice_get}
use Rattle.std.proofs.lemmas.Option.{slice_get_read}
use Rattle.roll_tree.proofs.Bytes.{before_change, after_change}
use Rattle.roll_tree.proofs.marks.Change.marks.Goals as goal

pub returns-then-frame-self : goal.returns-then-frame-self
returns-then-frame-self c =
    before_change c.args.self.now.player c.args.self.now.from c.args.self.now.base c.args.old.now c.args.new.now _ c.args.edge.now.row c.args.edge.now.marks c.requires.same (omega arith) (omega arith) c.requires.fresh (omega arith)

pub returns-in-Some : goal.returns-in-Some
returns-in-Some c =
    let place : c.args.end - c.args.self.now.base - 1 ≡ c.args.end - 1 - c.args.self.now.base = omega arith in
    let there = ap (slice_get c.args.new.now) place ∙ slice_get_read c.args.new.now _ _ c.index-new-place.result (λ i. length c.args.new.now) (omega arith) c.index-new-place.is in
    after_change c.args.self.now.player c.args.self.now.from c.args.self.now.base c.args.old.now c.args.new.now _ c.args.edge.now.row c.args.edge.now.marks c.requires.same (omega arith) (omega arith) c.requires.fresh
    c.in-Some.player c.marked.result c.index-new-place.result (omega (arith, c.in-Some.ensures, c.from.ensures)) there c.marked.ensures.here c.marked.ensures.others
