use Rattle.std.proofs.Common.{◌≡◌, ◌∙◌, ap, sym, fold, take, None, arith}
use Rattle.std.proofs.lemmas.List.{take_all}
use Rattle.std.specs.Prelude.{unwrap_or}
use Rattle.roll_inputs.proofs.Fronts.{lesser_of, remaining, fold_more, front_folded}
use Rattle.roll_inputs.proofs.queues.front.Goals as goal
use Rattle.roll_inputs.proofs.queues.front.Goals.{then-not-is_gone, else-not-is_gone}

pub loop-queue-preserved : goal.loop-queue-preserved
loop-queue-preserved c =
    let more = fold_more c.args.queues.now c.loop-queue.queue-index c.queue-item.result (omega arith) c.queue-item.is in
    elim c.if-not-is_gone.branch [
      | then-not-is_gone w ↦
          rw (w.least-is, w.lesser.ensures, w.count.ensures, c.loop-queue.invariant)
          (sym (rw (sym c.is_gone.ensures ∙ w.if-not-is_gone.true) at more))
      | else-not-is_gone w ↦ w.least-is ∙ (c.loop-queue.invariant ∙ sym (rw (sym c.is_gone.ensures ∙ w.if-not-is_gone.false) at more))
    ]

pub returns : goal.returns
returns c =
    let all : take c.loop-queue.queue-index c.args.queues.now ≡ c.args.queues.now = take_all c.loop-queue.queue-index c.args.queues.now (omega arith) in
    c.unwrap_or.ensures ∙ (ap (λ o. unwrap_or o 0) (c.loop-queue.invariant ∙ ap (λ qs. fold lesser_of None (remaining qs)) all) ∙ front_folded c.args.queues.now)
