use Rattle.std.proofs.Common.{◌≡◌, length, arith, sym, ◌∙◌, ap, add-one}
use Rattle.roll_branch.specs.Changes.{cells_before}
use Rattle.roll_branch.proofs.Rows.{filled_more, length-rows_from, row_made, rows_made}
use Rattle.roll_branch.proofs.packing.Packing.add.Goals as goal

pub invariant_of-self : goal.invariant_of-self
invariant_of-self c =
    let i = c.self.inside in
    let s = c.self.invariant in
    let before : c.as_slice.result.now ≡ cells_before i.changes.items i.count = c.as_slice.ensures.value ∙ s.last in
    let added = c.add_changes.ensures.added in
    let made = row_made i.count c.as_slice.result.now c.args.row.now i.changes.items c.add_changes.new.changes.items added before (s.later i.count (omega arith)) in
    let count : length c.args.self.now ≡ i.count = ap length (sym c.self.view_is) ∙ length-rows_from i.changes.items 0 i.count in
    record {
      short = omega (arith, c.requires);
      few = omega (arith, c.add_changes.ensures.few, s.few);
      last = c.cells-self-inside.ensures ∙ sym made ∙ ap (cells_before c.add_changes.new.changes.items) (sym (add-one i.count));
      later = λ row past. added.others row (omega arith) ∙ s.later row (omega arith);
      filled = filled_more i.count c.as_slice.result.now c.args.row.now i.changes.items c.add_changes.new.changes.items added made s.filled c.add_changes.ensures.filled;
      placed = added.placed s.placed;
    }

pub returns : goal.returns
returns c =
    let i = c.self.inside in
    let s = c.self.invariant in
    rw (← c.self.view_is) (rows_made i.count c.as_slice.result.now c.args.row.now i.changes.items c.add_changes.new.changes.items c.add_changes.ensures.added (c.as_slice.ensures.value ∙ s.last) (s.later i.count (omega arith)))
