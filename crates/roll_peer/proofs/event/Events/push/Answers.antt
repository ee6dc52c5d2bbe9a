use Rattle.std.proofs.Common.{◌≡◌, length, arith, rules}
use Rattle.roll_peer.proofs.Queues.{pushed_full}
use Rattle.roll_peer.proofs.event.Events.push.Goals as goal

pub returns-else-self-lt-EVENT_LIMIT-clause-pushed
    : goal.returns-else-self-lt-EVENT_LIMIT-clause-pushed
returns-else-self-lt-EVENT_LIMIT-clause-pushed c =
    let long : length c.self.inside.events ≡ 64 = search rules in
    let full : c.self.inside.count ≡ 64 = omega (arith, c.self.invariant) in
    rw (← c.self.view_is, c.rotate_left.ensures.after, c.saturating_add-self-inside.ensures)
    (pushed_full c.self.inside.events c.args.event c.self.inside.count c.self.inside.lost long full)
