use Rattle.std.proofs.Common.{◌≡◌, ◌+◌, ◌∙◌, ap, sym, map, take, arith}
use Rattle.std.proofs.lemmas.List.{take_all}
use Rattle.std.proofs.lemmas.Simd.{map-map}
use Rattle.roll_frame.specs.Timeline.{cell_at}
use Rattle.roll_inputs.specs.Queues.{Known}
use Rattle.roll_inputs.proofs.Cells.{cells_more}
use Rattle.roll_inputs.proofs.queues.row_at.Goals as goal

pub loop-queue-preserved : goal.loop-queue-preserved
loop-queue-preserved c =
    c.push.ensures ∙ rw (c.loop-queue.invariant, c.cell-in-loop-queue.ensures) (sym (cells_more (λ q. cell_at c.args.frame q.player) c.args.queues.now c.loop-queue.queue-index c.queue-item.result (omega arith) c.queue-item.is))

pub returns : goal.returns
returns c =
    let all : take (c.loop-queue.queue-index + 1) c.args.queues.now ≡ c.args.queues.now = take_all (c.loop-queue.queue-index + 1) c.args.queues.now (omega arith) in
    c.loop-queue.invariant ∙ (ap (λ qs. map (λ (q : Known). cell_at c.args.frame q.player) qs) all ∙ sym (map-map (cell_at c.args.frame) (λ (q : Known). q.player) c.args.queues.now))
