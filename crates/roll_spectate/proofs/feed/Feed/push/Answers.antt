use Rattle.std.proofs.Common.{◌∙◌, ◌≤◌, ◌<◌, length, ap, arith}
use Rattle.roll_frame.specs.declared.limits.TheConstants.{FRAME_LIMIT}
use Rattle.roll_session.specs.Standing.{settled_rows}
use Rattle.roll_spectate.proofs.Sending.{one_more}
use Rattle.roll_spectate.proofs.feed.Feed.push.Goals as goal

pub overflow_add-count : goal.overflow_add-count
overflow_add-count g c =
    let there : c.loop-sender.sender-index < length c.args.self.now = omega (arith, c.loop-sender-test.true, ap length (c.deref_mut-sender-items.ensures.value ∙ c.self.view_is)) in
    let most : length c.args.self.now ≤ 32 = rw (← c.self.view_is) c.self.invariant.1 in
    let few : c.push-count.result ≤ FRAME_LIMIT = omega (arith, c.push-count.ensures.count, c.push-count.ensures.few) in
    omega (arith, few, there, most, c.loop-sender.invariant.few)

pub loop-sender-preserved : goal.loop-sender-preserved
loop-sender-preserved g c =
    let there : c.loop-sender.sender-index < length c.args.self.now = omega (arith, c.loop-sender-test.true, ap length (c.deref_mut-sender-items.ensures.value ∙ c.self.view_is)) in
    let few : c.push-count.result ≤ FRAME_LIMIT = omega (arith, c.push-count.ensures.count, c.push-count.ensures.few) in
    let rows = settled_rows (g.S.Networked.seen c.args.session.now).core in
    one_more rows _ _ _ _ c.loop-sender.invariant there c.sender-item.result c.push-count.new.self c.push-count.result c.push-count.ensures.pushed c.push-count.ensures.count few
