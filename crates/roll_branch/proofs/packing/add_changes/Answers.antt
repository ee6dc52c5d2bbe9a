use Rattle.std.proofs.Common.{◌≡◌, ◌+◌, ◌<◌, ◌++◌, ◌∷◌, [], length, take, drop, get_or, arith, ap, ◌∙◌, subst, refl, Some}
use Rattle.std.specs.Prelude.{slice_get}
use Rattle.std.proofs.lemmas.List.{length_push}
use Rattle.roll_frame.specs.declared.row.Cell.TheVariants.{Word}
use Rattle.roll_branch.proofs.Rows.{added_more, kept_next, with_next}
use Rattle.roll_branch.proofs.packing.add_changes.Goals.{then-not-has_cell, else-not-has_cell}
use Rattle.roll_branch.proofs.packing.add_changes.Goals as goal

pub loop-place-preserved : goal.loop-place-preserved
loop-place-preserved c =
    let l = c.loop-place in
    let row = c.args.row.now in
    let before = c.args.before.now in
    let cell = get_or c.deref.result.now c.from.result (Word 0) in
    let cells : c.deref.result.now ≡ row = c.deref.ensures.0 ∙ c.cells-cells.ensures in
    let at : cell ≡ get_or row l.place (Word 0) = ap (λ xs. get_or xs c.from.result (Word 0)) cells ∙ ap (λ i. get_or row i (Word 0)) c.from.ensures in
    let below : l.place < length row = omega (arith, c.count-count.ensures.value) in
    elim c.if-not-has_cell.branch [
      | then-not-has_cell w ↦
          (let items : c.if-not-has_cell.changes.items ≡ l.changes.items ++ w.new.result ∷ [] = ap (λ v. v.items) w.changes-is ∙ w.push.ensures.items in
          rw items (record {
            added = added_more c.args.number before (take l.place row ++ drop l.place before) (take (l.place + 1) row ++ drop (l.place + 1) before) c.args.changes.now.items l.changes.items w.new.result l.invariant.added w.new.ensures.row (omega (arith, w.new.ensures.place, c.count-count.ensures.few)) (w.new.ensures.change (take l.place row ++ drop l.place before) ∙ with_next row before l.place cell (Word 0) below at);
            few = omega (arith, length_push l.changes.items w.new.result, l.invariant.few);
          }))
      | else-not-has_cell w ↦
          (let there : slice_get before l.place ≡ Some cell = subst (λ i. slice_get before i ≡ Some cell) c.from-in-loop-place.ensures (w.if-not-has_cell.ensures refl) in
          rw (w.changes-is, ← kept_next row before l.place cell (Word 0) below at there) (record { added = l.invariant.added; few = omega (arith, l.invariant.few) }))
    ]
