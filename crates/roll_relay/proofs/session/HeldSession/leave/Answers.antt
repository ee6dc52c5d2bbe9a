use Rattle.std.proofs.Common.{◌∙◌, ◌-◌, ap}
use Rattle.roll_frame.specs.declared.entry.Entry.TheVariants.{Disconnect}
use Rattle.roll_session.specs.Seen.{Seen}
use Rattle.roll_relay.specs.Waits.{wait_more}
use Rattle.roll_relay.proofs.Rooms.{after_all, one_room, same_room}
use Rattle.roll_relay.proofs.Waiting.{one_more}
use Rattle.roll_relay.proofs.session.HeldSession.leave.Goals as goal

pub returns-in-Ok-clause-waits : goal.returns-in-Ok-clause-waits
returns-in-Ok-clause-waits g c =
    let old = c.args.self.now in
    let mid = c.tell_all.new.self in
    let told = g.S.Networked.seen mid.session.now in
    let after = g.S.Networked.seen c.disconnect_player.new.self in
    wait_more (g.S.Networked.seen old.session.now) told after old.held.now mid.held.now mid.held.now c.tell_all.ensures.waits
    (one_more told after (Disconnect c.args.player) mid.held.now (ap (λ (x : Seen). x.log) c.in-Ok.ensures.taken))

pub returns-in-Ok-clause-rooms : goal.returns-in-Ok-clause-rooms
returns-in-Ok-clause-rooms g c =
    let old = c.args.self.now in
    let mid = c.tell_all.new.self in
    let seen = g.S.Networked.seen in
    let after = seen c.disconnect_player.new.self in
    let taken = c.in-Ok.ensures.taken in
    after_all (seen old.session.now) (seen mid.session.now) after old.held.now.words.items mid.held.now.words.items old.reserved
    c.saturating_sub-self.result c.tell_all.ensures.session c.tell_all.ensures.none
    (one_room (seen mid.session.now) after old.reserved c.saturating_sub-self.result (ap (λ (x : Seen). x.core.logged) taken)
    (ap (λ (x : Seen). x.reserved) taken) (c.saturating_sub-self.ensures ∙ ap (λ n. n - 1) c.tell_all.ensures.reserved))

pub returns-in-Err-clause-rooms : goal.returns-in-Err-clause-rooms
returns-in-Err-clause-rooms g c =
    let old = c.args.self.now in
    let mid = c.tell_all.new.self in
    let seen = g.S.Networked.seen in
    let after = seen c.disconnect_player.new.self in
    after_all (seen old.session.now) (seen mid.session.now) after old.held.now.words.items mid.held.now.words.items old.reserved
    mid.reserved c.tell_all.ensures.session c.tell_all.ensures.none
    (same_room (seen mid.session.now) after old.reserved mid.reserved c.in-Err.ensures.refused.unchanged c.tell_all.ensures.reserved)
