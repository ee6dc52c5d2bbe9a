use Rattle.std.proofs.Common.{◌+◌, ap, arith}
use Rattle.roll_session.specs.Seen.{Seen}
use Rattle.roll_relay.proofs.Told.{room_made, stand_on, told_stays}
use Rattle.roll_relay.proofs.session.HeldSession.make_room.Goals as goal

pub returns-then-self-gt0-clause-room : goal.returns-then-self-gt0-clause-room
returns-then-self-gt0-clause-room g c =
    let old = c.args.self.now in
    let kept = told_stays (g.S.Networked.seen old.session.now) old.held.now.words.items in
    omega (arith, old.room, kept.reserved, c.if-self-gt0.true)

pub invariant_of-self : goal.invariant_of-self
invariant_of-self g c =
    let old = c.args.self.now in
    let s = g.S.Networked.seen old.session.now in
    let words = old.held.now.words.items in
    let on = room_made g.S.Networked.seen old.session.now c.reserve_log.new.self c.reserve_log.result (c.len-waiting.result + 1)
    c.reserve_log.ensures.reserved c.reserve_log.ensures.unchanged in
    let stand = stand_on s (g.S.Networked.seen c.reserve_log.new.self) words old.reserved on
    (record { fits = old.fits; there = old.room; log = old.log }) in
    record { fits = stand.fits; room = stand.there; log = stand.log }

pub returns-in-Ok-clause-room : goal.returns-in-Ok-clause-room
returns-in-Ok-clause-room g c =
    let words = c.args.self.now.held.now.words.items in
    let kept = told_stays (g.S.Networked.seen c.reserve_log.new.self) words in
    let room = ap (λ (x : Seen). x.reserved) c.in-Ok.ensures.reserved in
    omega (arith, kept.reserved, room, c.len-waiting.ensures.value)

pub returns-then-self-gt0-clause-made : goal.returns-then-self-gt0-clause-made
returns-then-self-gt0-clause-made g c =
    let old = c.args.self.now in
    let kept = told_stays (g.S.Networked.seen old.session.now) old.held.now.words.items in
    omega (arith, old.room, kept.reserved, c.if-self-gt0.true)

pub returns-in-Ok-clause-made : goal.returns-in-Ok-clause-made
returns-in-Ok-clause-made g c =
    let words = c.args.self.now.held.now.words.items in
    let was = told_stays (g.S.Networked.seen c.args.self.now.session.now) words in
    let kept = told_stays (g.S.Networked.seen c.reserve_log.new.self) words in
    let room = ap (λ (x : Seen). x.reserved) c.in-Ok.ensures.reserved in
    omega (arith, was.reserved, kept.reserved, room, c.len-waiting.ensures.value)
