use Rattle.std.proofs.Common.{ap}
use Rattle.roll_relay.specs.Told.{roomless}
use Rattle.roll_relay.proofs.Carried.{sends_by}
use Rattle.roll_relay.proofs.held.Held.send.Goals as goal

pub returns-in-Ok-clause-sent : goal.returns-in-Ok-clause-sent
returns-in-Ok-clause-sent g c =
    let seen = g.S.Networked.seen in
    let words = c.args.self.now.words.items in
    sends_by (seen c.args.session.now) (seen c.make_room.new.session) (seen c.make_room.new.session) words words 0
    (ap roomless c.in-Ok.ensures.made) (λ bytes. bytes.items) c.args.now c.args.machine c.args.peer.now c.send.new.peer c.args.relay.now
    c.send.new.self c.send.result c.send.ensures.sent c.send.ensures.other c.send.ensures.peer c.send.ensures.unchanged
