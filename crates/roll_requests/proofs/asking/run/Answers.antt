use Rattle.std.proofs.Common.{◌≡◌, ◌∙◌, ◌+◌, ◌-◌, ℕ, ap, arith, get_or, refl}
use Rattle.roll_frame.specs.Timeline.{row_at}
use Rattle.roll_requests.specs.declared.request.Request.TheVariants.{Advance, Save}
use Rattle.roll_requests.proofs.Carrying.{runs_more}
use Rattle.roll_requests.proofs.asking.run.Goals as goal

pub loop-frame-preserved : goal.loop-frame-preserved
loop-frame-preserved c =
    let way = c.args.way.now in
    let players = c.args.core.now.saves.inputs.players in
    let now = c.loop-frame.invariant in
    let k : ℕ = c.loop-frame.frame - way.frame in
    let next : c.loop-frame.frame + 1 - way.frame ≡ k + 1 = omega (arith, c.loop-frame.auto.frame) in
    let here : c.loop-frame.frame ≡ way.frame + k = omega (arith, c.loop-frame.auto.frame) in
    let a = c.push.ensures in
    let b = c.push-in-loop-frame.ensures in
    record {
      asked = runs_more (λ row. Advance row) (λ slot. Save slot) (λ j. row_at players (way.frame + j)) c.args.slots.now k (c.loop-frame.frame + 1 - way.frame) c.row-row.result (get_or c.args.slots.now k 0) c.args.queue.now.requests _ _ _ now.asked a.added b.added (c.row-row.ensures ∙ ap (row_at players) here) refl next;
      room = omega (arith, now.room, c.loop-frame-test.true, a.room, b.room);
    }
