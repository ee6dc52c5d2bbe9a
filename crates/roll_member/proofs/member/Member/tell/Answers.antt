use Rattle.std.proofs.Common.{◌≡◌, ◌≤◌, ◌+◌, ◌∙◌, ap, arith, length, subst, sym}
use Rattle.roll_mesh.specs.Machines.{offer_at, tell}
use Rattle.roll_mesh.specs.declared.packet.Packet.{Packet}
use Rattle.roll_session.specs.Headline.{words_of}
use Rattle.roll_wire.specs.Spelling.{count_of}
use Rattle.roll_wire.specs.declared.limits.TheConstants.{WORD_LIMIT}
use Rattle.roll_mesh.specs.declared.limits.TheConstants.{PLAYER_LIMIT}
use Rattle.roll_member.specs.Beside.{Membership}
use Rattle.roll_member.specs.Joined.{IsTied, Joined}
use Rattle.roll_member.specs.Telling.{room_for, IsOfferOf}
use Rattle.roll_member.proofs.Rooms.{is_told, told_fits, told_there}
use Rattle.roll_member.proofs.member.Member.tell.Goals as goal

pub words_of-words-requires-clause-there : goal.words_of-words-requires-clause-there
words_of-words-requires-clause-there g c p l =
    let s = g.S.Networked.seen c.args.session.now in
    let m : Joined = record { session = s; mesh = c.self.inside.mesh } in
    subst (λ (packet : Packet). IsOfferOf (words_of m.session (p + 1)) (offer_at packet p))
    (sym c.tell-packet.ensures.told)
    (told_there m
    (subst (λ (m : Membership). IsTied s m.mesh) (sym c.self.view_is) c.requires) c.args.machine c.room_for-room.result p l)

pub words_of-words-requires-clause-room : goal.words_of-words-requires-clause-room
words_of-words-requires-clause-room g c =
    let mesh = c.self.inside.mesh in
    let packet : c.tell-packet.result ≡ tell mesh.seat c.args.machine (room_for mesh c.args.machine) mesh.machine =
    c.tell-packet.ensures.told ∙ ap (λ room. tell mesh.seat c.args.machine room mesh.machine) c.room_for-room.ensures in
    subst (λ (p : Packet). count_of p.offers ≤ WORD_LIMIT) (sym packet) (told_fits mesh c.args.machine
    c.self.invariant.whole.word)

pub returns : goal.returns
returns g c =
    let s = g.S.Networked.seen c.args.session.now in
    let m : Joined = record { session = s; mesh = c.self.inside.mesh } in
    let mesh = c.self.inside.mesh in
    let packet : c.tell-packet.result ≡ tell mesh.seat c.args.machine (room_for mesh c.args.machine) mesh.machine =
    c.tell-packet.ensures.told ∙ ap (λ room. tell mesh.seat c.args.machine room mesh.machine) c.room_for-room.ensures in
    let few : length c.tell-packet.result.offers ≤ PLAYER_LIMIT = omega arith in
    rw (← c.self.view_is) (is_told m (subst (λ (m : Membership). IsTied s m.mesh) (sym c.self.view_is) c.requires) c.args.machine c.tell-packet.result c.words_of-words.result.items packet c.words_of-words.ensures few)
