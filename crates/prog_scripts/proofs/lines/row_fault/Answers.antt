use Rattle.std.proofs.Common.{◌==◌, inr, map, rules, tests}
use Rattle.std.proofs.lemmas.Iterator.Consumers.{YieldsList-at, YieldsList-turn, YieldsList-end, count_from_yields_List}
use Rattle.std.proofs.lemmas.Iterator.Splits.{YieldsList-from_slice_split}
use Rattle.std.proofs.lemmas.List.{map-append}
use Rattle.std.proofs.lemmas.List.Elements.{All-push}
use Rattle.prog_scripts.specs.Diagnoses.{IsFaultOfCell, IsCell, parts}
use Rattle.prog_scripts.proofs.Diagnosed.{counted, stands_at}
use Rattle.prog_scripts.proofs.lines.row_fault.Goals as goal

pub returns-in-Some-cell_fault : goal.returns-in-Some-cell_fault
returns-in-Some-cell_fault c =
    inr (
      c.in-Some.part.now,
      stands_at (parts c.args.field.now) _ _ (YieldsList-turn
          (YieldsList-at c.into_iter-part-iterator.ensures.into_iter_gives (YieldsList-from_slice_split _ (λ b. b == 44) c.args.field.now c.split-part-items.ensures.rest c.split-part-items.ensures.done c.split-part-items.ensures.closure (λ x r q k. search (rules, tests))))
          c.loop-part.yielded _ c.loop-part.yielded_by _ _ c.in-Some.part c.in-Some.is c.next.ensures.steps),
      c.in-Some-cell_fault.ensures,
    )

pub loop-part-preserved : goal.loop-part-preserved
loop-part-preserved c =
    rw (map-append (λ part. part.now) c.loop-part.yielded) (All-push IsCell (map (λ part. part.now) c.loop-part.yielded) c.in-Some.part.now c.loop-part.invariant c.in_default.ensures)

pub returns : goal.returns
returns c =
    let ended = YieldsList-end
    (YieldsList-at c.into_iter-part-iterator.ensures.into_iter_gives (YieldsList-from_slice_split _ (λ b. b == 44) c.args.field.now c.split-part-items.ensures.rest c.split-part-items.ensures.done c.split-part-items.ensures.closure (λ x r q k. search (rules, tests))))
    c.loop-part.yielded _ c.loop-part.yielded_by _ _ c.in-None.is c.next.ensures.steps in
    counted IsCell IsFaultOfCell c.args.players c.args.players c.count.result (parts c.args.field.now) c.length_fault.result
    (count_from_yields_List _ _ c.count.ensures.ran (YieldsList-from_slice_split _ (λ b. b == 44) c.args.field.now c.split.ensures.rest c.split.ensures.done c.split.ensures.closure (λ x r q k. search (rules, tests))))
    (rw ended.0 at c.loop-part.invariant)
    c.length_fault.ensures
