use Rattle.std.proofs.Common.{ap, rules}
use Rattle.roll_relay.specs.Relayed.{relayed_beside, HearsHeldBy}
use Rattle.roll_relay.specs.Told.{roomless}
use Rattle.roll_relay.proofs.Carried.{hears_held_by}
use Rattle.roll_relay.proofs.Rooms.{has_room}
use Rattle.roll_relay.specs.Waits.{Waits}
use Rattle.roll_relay.proofs.Waiting.{waits_past, waits_same}
use Rattle.roll_relay.proofs.held.Held.receive.Goals as goal

pub returns-in-Ok-clause-heard : goal.returns-in-Ok-clause-heard
returns-in-Ok-clause-heard g c =
    let seen = g.S.Networked.seen in
    let new = c.receive.new.session in
    let made = c.in-Ok.ensures.made in
    let has = has_room (seen c.args.session.now) (seen c.make_room.new.session) (seen new.session.now) c.args.self.now.words.items
    new.held.now.words.items new.reserved made c.receive.ensures.keeps.1.1.1.0 in
    let hears : HearsHeldBy g.S.Networked.step c.args.now
    (relayed_beside (seen c.args.session.now) c.args.self.now.words.items c.args.peer.now c.args.relay.now)
    (relayed_beside (seen new.session.now) new.held.now.words.items c.receive.new.peer c.receive.new.self) c.args.bytes.now
    c.receive.result =
    hears_held_by (seen c.args.session.now) (seen c.make_room.new.session) (seen new.session.now) c.args.self.now.words.items
    new.held.now.words.items new.reserved (ap roomless made) g.S.Networked.step c.args.peer.now c.receive.new.peer
    c.args.relay.now c.receive.new.self c.args.now c.args.bytes.now c.receive.result has c.receive.ensures.heard
    c.receive.ensures.said c.receive.ensures.ignored c.receive.ensures.unchanged in
    search (hears, rules)

pub returns-in-Ok-clause-waits : goal.returns-in-Ok-clause-waits
returns-in-Ok-clause-waits g c =
    let seen = g.S.Networked.seen in
    let new = c.receive.new.session in
    let waits : Waits (seen c.args.session.now) (seen new.session.now) c.args.self.now new.held.now =
    waits_past (seen c.args.session.now) (seen c.make_room.new.session) (seen new.session.now) c.args.self.now new.held.now
    (ap roomless c.in-Ok.ensures.made) c.receive.ensures.keeps.1.1.0 in
    search (waits, rules)

pub returns-in-Err-clause-waits : goal.returns-in-Err-clause-waits
returns-in-Err-clause-waits g c =
    waits_same g.S.Networked.seen c.args.session.now c.make_room.new.session c.args.self.now c.in-Err.ensures.unchanged
