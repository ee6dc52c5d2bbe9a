use Rattle.std.proofs.Common.{ap, rules}
use Rattle.roll_relay.specs.Heard.{beside, PollsHeld}
use Rattle.roll_relay.specs.Told.{roomless}
use Rattle.roll_relay.proofs.Ahead.{polls_held}
use Rattle.roll_relay.proofs.Rooms.{has_room}
use Rattle.roll_relay.specs.Waits.{Waits}
use Rattle.roll_relay.proofs.Waiting.{waits_past, waits_same}
use Rattle.roll_relay.proofs.held.Held.poll.Goals as goal

pub returns-in-Ok-clause-polled : goal.returns-in-Ok-clause-polled
returns-in-Ok-clause-polled g c =
    let seen = g.S.Networked.seen in
    let new = c.poll.new.session in
    let made = c.in-Ok.ensures.made in
    let has = has_room (seen c.args.session.now) (seen c.make_room.new.session) (seen new.session.now) c.args.self.now.words.items
    new.held.now.words.items new.reserved made c.poll.ensures.keeps.1.1.1.0 in
    let polls : PollsHeld (beside (seen c.args.session.now) c.args.self.now.words.items c.args.peer.now)
    (beside (seen new.session.now) new.held.now.words.items c.poll.new.self) c.args.now c.poll.result =
    polls_held (seen c.args.session.now) (seen c.make_room.new.session) (seen new.session.now) c.args.self.now.words.items
    new.held.now.words.items new.reserved (ap roomless made) c.args.peer.now c.poll.new.self c.args.now
    c.poll.result has c.poll.ensures.polled in
    search (polls, rules)

pub returns-in-Ok-clause-waits : goal.returns-in-Ok-clause-waits
returns-in-Ok-clause-waits g c =
    let seen = g.S.Networked.seen in
    let new = c.poll.new.session in
    let waits : Waits (seen c.args.session.now) (seen new.session.now) c.args.self.now new.held.now =
    waits_past (seen c.args.session.now) (seen c.make_room.new.session) (seen new.session.now) c.args.self.now new.held.now
    (ap roomless c.in-Ok.ensures.made) c.poll.ensures.keeps.1.1.0 in
    search (waits, rules)

pub returns-in-Err-clause-waits : goal.returns-in-Err-clause-waits
returns-in-Err-clause-waits g c =
    waits_same g.S.Networked.seen c.args.session.now c.make_room.new.session c.args.self.now c.in-Err.ensures.unchanged
