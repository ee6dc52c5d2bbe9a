use Rattle.std.proofs.Common.{◌≡◌, ◌++◌, ◌+◌, ◌-◌, ◌≤◌, ◌∙◌, ap, arith, ℕ}
use Rattle.roll_frame.specs.Core.{settled}
use Rattle.roll_frame.specs.Timeline.{row_at}
use Rattle.roll_inputs.specs.Boards.{Inputs}
use Rattle.roll_requests.specs.Ended.{open_row}
use Rattle.roll_requests.specs.Requests.{advances}
use Rattle.roll_requests.proofs.Ending.{advances_more}
use Rattle.roll_requests.proofs.asking.run_open.Goals as goal

pub returns-clause-asked : goal.returns-clause-asked
returns-clause-asked c =
    let core = c.args.core.now.seen.core in
    let all : c.loop-frame.frame - settled core ≡ c.args.end - settled core = omega (arith, c.loop-frame.invariant.within, c.loop-frame-test.false) in
    c.loop-frame.invariant.asked ∙ ap (λ n. c.args.queue.now.requests ++ advances (open_row core) n) all

pub returns-clause-room : goal.returns-clause-room
returns-clause-room c = omega (arith, c.loop-frame.invariant.room, c.loop-frame.invariant.within, c.loop-frame-test.false)

pub loop-frame-preserved : goal.loop-frame-preserved
loop-frame-preserved c =
    let core = c.args.core.now.seen.core in
    let far : ℕ = settled core in
    let now = c.loop-frame.invariant in
    let k : ℕ = c.loop-frame.frame - far in
    let low : far ≤ c.loop-frame.frame = omega (arith, c.loop-frame.auto.frame, c.settled-frame.ensures) in
    let next : c.loop-frame.frame + 1 - far ≡ k + 1 = omega (arith, low) in
    let here : c.loop-frame.frame ≡ far + k = omega (arith, low) in
    let row : c.row.result ≡ open_row core k =
    c.row.ensures ∙ ap (λ (i : Inputs). row_at i.players c.loop-frame.frame) c.laws.ensures.inputs ∙ ap (row_at core.players) here in
    record {
      asked = advances_more (open_row core) k (c.loop-frame.frame + 1 - far) c.row.result c.args.queue.now.requests _ _ now.asked c.push.ensures.added row next;
      within = omega (arith, low, c.loop-frame-test.true);
      room = omega (arith, low, now.room, c.push.ensures.room);
    }
