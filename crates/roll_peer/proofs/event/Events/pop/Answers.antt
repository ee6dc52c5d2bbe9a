use Rattle.std.proofs.Common.{◌≡◌, length, arith, refl, rules}
use Rattle.roll_peer.proofs.Queues.{take-moved}
use Rattle.roll_peer.proofs.event.Events.pop.Goals as goal

pub returns-clause-rest : goal.returns-clause-rest
returns-clause-rest c =
    let long : length c.self.inside.events ≡ 64 = search rules in
    let moved = take-moved c.self.inside.count c.self.inside.events (omega arith)
    (omega (arith, long, c.self.invariant)) in
    rw (← c.self.view_is, c.rotate_left.ensures.after, moved) refl
