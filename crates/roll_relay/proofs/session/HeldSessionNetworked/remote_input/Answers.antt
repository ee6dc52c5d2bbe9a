use Rattle.std.proofs.Common.{◌≡◌, ◌∙◌, ◌+◌, ◌-◌, ◌∷◌, ◌++◌, [], List, ap, arith, length, refl, subst, sym, true}
use Rattle.std.specs.Prelude.{unwrap_or}
use Rattle.roll_frame.specs.declared.refusal.Refusal.TheVariants.{NoMemory}
use Rattle.roll_inputs.specs.declared.remote_word.RemoteWord.{RemoteWord}
use Rattle.roll_session.specs.Changes.{remote_refusal, FitsLog, IsHeard}
use Rattle.roll_session.specs.Seen.{Seen}
use Rattle.roll_relay.specs.Told.{is_next, roomless, told, Takes}
use Rattle.roll_relay.specs.Rooms.{KeepRoom}
use Rattle.roll_relay.proofs.Rooms.{after_all, held_room, same_room, taken_room}
use Rattle.roll_relay.proofs.Told.{as_told_same, full_same, held_more, next_refusal, next_taken, takes_room, told_room}
use Rattle.roll_relay.specs.Waits.{wait_more}
use Rattle.roll_relay.proofs.Waiting.{said_waits}
use Rattle.roll_relay.proofs.session.HeldSessionNetworked.remote_input.Goals as goal

pub hold-requires-clause-takes : goal.hold-requires-clause-takes
hold-requires-clause-takes g c =
    let old = c.args.self.now in
    let s = g.S.Networked.seen old.session.now in
    let mid = g.S.Networked.seen c.make_room.new.self.session.now in
    let words = old.held.now.words.items in
    let w : RemoteWord = record { player = c.args.player; frame = c.args.frame; word = c.args.word } in
    let i = c.in-Ok.ensures in
    let next : is_next s words w ≡ true =
    c.if-holds.ensures.next refl in
    let room : FitsLog s (length words + 1) = omega (
      arith,
      i.log,
      ap (λ (x : Seen). x.core.logged) i.same,
      ap (λ (x : Seen). x.settings.log) i.same,
      ap (λ (ws : List RemoteWord). length ws) i.words,
    ) in
    let takes = next_taken g.S.Networked.step s words w c.laws.ensures old.fits room next in
    subst (λ (x : Seen). Takes x w) (sym (c.make_place.ensures.same ∙ ap (told mid) i.words))
    (takes_room (told s words) (told mid words) w (sym (told_room mid s words i.same)) takes)

pub returns-in-Ok-clause-heard : goal.returns-in-Ok-clause-heard
returns-in-Ok-clause-heard g c =
    let old = c.args.self.now in
    let s = g.S.Networked.seen old.session.now in
    let mid = g.S.Networked.seen c.make_room.new.self.session.now in
    let place = g.S.Networked.seen c.make_place.new.self.session.now in
    let words = old.held.now.words.items in
    let held = c.make_place.new.self.held.now.words.items in
    let w : RemoteWord = record { player = c.args.player; frame = c.args.frame; word = c.args.word } in
    let i = c.in-Ok.ensures in
    let next : is_next s words w ≡ true =
    c.if-holds.ensures.next refl in
    let room : FitsLog s (length words + 1) = omega (
      arith,
      i.log,
      ap (λ (x : Seen). x.core.logged) i.same,
      ap (λ (x : Seen). x.settings.log) i.same,
      ap (λ (ws : List RemoteWord). length ws) i.words,
    ) in
    let takes = next_taken g.S.Networked.step s words w c.laws.ensures old.fits room next in
    let reserved = c.hold.ensures.reserved ∙ ap (λ n. n - 1) (c.make_place.ensures.reserved ∙ i.reserved) in (
      takes.fresh,
      takes.taken,
      as_told_same (g.S.Networked.seen c.hold.new.self.session.now) place c.hold.new.self.held.now.words.items (held ++ w ∷ [])
          c.hold.new.self.reserved (old.reserved - 1) (ap (λ x. roomless (g.S.Networked.seen x)) c.hold.ensures.session)
          c.hold.ensures.words reserved
          ∙ held_more s mid place words held w old.reserved i.same (c.make_place.ensures.same ∙ ap (told mid) i.words),
    )

pub returns-in-Err-clause-fresh : goal.returns-in-Err-clause-fresh
returns-in-Err-clause-fresh g c =
    let old = c.args.self.now in
    let s = g.S.Networked.seen old.session.now in
    let words = old.held.now.words.items in
    let w : RemoteWord = record { player = c.args.player; frame = c.args.frame; word = c.args.word } in
    let next : is_next s words w ≡ true =
    c.if-holds.ensures.next refl in
    (next_refusal g.S.Networked.step s words w c.laws.ensures old.fits next).0

pub returns-in-Err-clause-refused : goal.returns-in-Err-clause-refused
returns-in-Err-clause-refused g c =
    let old = c.args.self.now in
    let s = g.S.Networked.seen old.session.now in
    let mid = g.S.Networked.seen c.make_room.new.self.session.now in
    let words = old.held.now.words.items in
    let w : RemoteWord = record { player = c.args.player; frame = c.args.frame; word = c.args.word } in
    let i = c.in-Err.ensures in
    let next : is_next s words w ≡ true =
    c.if-holds.ensures.next refl in
    let why = (next_refusal g.S.Networked.step s words w c.laws.ensures old.fits next).1 ∙ full_same s words in
    record {
      said = i.refused ∙ ap (λ o. unwrap_or o NoMemory) (sym why);
      unchanged = as_told_same mid s c.make_room.new.self.held.now.words.items words c.make_room.new.self.reserved old.reserved
          i.same i.words i.reserved;
      reserved = λ none. i.unreserved;
    }

pub returns-in-Ok-clause-keeps : goal.returns-in-Ok-clause-keeps
returns-in-Ok-clause-keeps g c =
    let old = c.args.self.now in
    let mid = c.make_room.new.self in
    let place = c.make_place.new.self in
    let new = c.hold.new.self in
    let seen = g.S.Networked.seen in
    let w : RemoteWord = record { player = c.args.player; frame = c.args.frame; word = c.args.word } in
    let i = c.in-Ok.ensures in
    let p = c.make_place.ensures in
    let h = c.hold.ensures in
    let keeps = g.S.Networked.keeps_on old.session.now mid.session.now place.session.now i.keeps p.keeps in
    let waits = wait_more (seen old.session.now) (seen mid.session.now) (seen place.session.now) old.held.now mid.held.now place.held.now
    i.waits p.waits in (
      h.same_session ∙ p.same_session ∙ i.same_session,
      (
        h.same_held ∙ p.same_held ∙ i.same_held,
        (
          wait_more (seen old.session.now) (seen place.session.now) (seen new.session.now) old.held.now place.held.now new.held.now
              waits h.waits,
          (
            subst (λ (ws : List RemoteWord). KeepRoom (told (seen old.session.now) old.held.now.words.items) (told (seen new.session.now) ws) old.reserved new.reserved)
                (sym h.words)
                (held_room (seen old.session.now) (seen mid.session.now) (seen new.session.now) old.held.now.words.items
                place.held.now.words.items w old.reserved new.reserved (ap (λ (ws : List RemoteWord). (told (seen mid.session.now) ws).reserved) (sym i.words) ∙ i.made)
                i.same (ap (λ s. told (seen s) place.held.now.words.items) h.session ∙ p.same ∙ ap (told (seen mid.session.now)) i.words)
                (h.reserved ∙ ap (λ n. n - 1) (p.reserved ∙ i.reserved))),
            subst (λ s. g.S.Networked.keeps old.session.now s) (sym h.session) keeps,
          ),
        ),
      ),
    )

pub returns-in-Ok-Taken-clause-keeps : goal.returns-in-Ok-Taken-clause-keeps
returns-in-Ok-Taken-clause-keeps g c =
    let old = c.args.self.now in
    let mid = c.tell_all.new.self in
    let seen = g.S.Networked.seen in
    let told_all = c.tell_all.ensures in
    let said = c.remote_input.ensures in
    let waits = said_waits (seen mid.session.now) (seen c.remote_input.new.self) c.args.player c.args.frame c.args.word
    (remote_refusal (seen mid.session.now) c.args.player c.args.frame) mid.held.now c.remote_input.result said.heard said.refused in (
      told_all.same_session,
      (
        told_all.same_held,
        (
          wait_more (seen old.session.now) (seen mid.session.now) (seen c.remote_input.new.self) old.held.now mid.held.now mid.held.now
              told_all.waits waits,
          (
            after_all (seen old.session.now) (seen mid.session.now) (seen c.remote_input.new.self) old.held.now.words.items
                mid.held.now.words.items old.reserved c.saturating_sub-self.result told_all.session told_all.none
                (taken_room (seen mid.session.now) (seen c.remote_input.new.self) old.reserved c.saturating_sub-self.result c.args.player
                c.args.frame c.args.word (subst (IsHeard (seen mid.session.now) (seen c.remote_input.new.self) c.args.player c.args.frame c.args.word)
                c.in-Ok-Taken.field-0-is c.in-Ok-Taken.ensures.heard) (c.saturating_sub-self.ensures ∙ ap (λ n. n - 1) told_all.reserved)),
            g.S.Networked.keeps_on old.session.now mid.session.now c.remote_input.new.self told_all.keeps said.keeps,
          ),
        ),
      ),
    )

pub returns-in-Ok-Repeated-clause-keeps : goal.returns-in-Ok-Repeated-clause-keeps
returns-in-Ok-Repeated-clause-keeps g c =
    let old = c.args.self.now in
    let mid = c.tell_all.new.self in
    let seen = g.S.Networked.seen in
    let told_all = c.tell_all.ensures in
    let said = c.remote_input.ensures in
    let same = (subst (IsHeard (seen mid.session.now) (seen c.remote_input.new.self) c.args.player c.args.frame c.args.word)
    c.in-Ok-Repeated.field-0-is c.in-Ok-Repeated.ensures.heard).1 in
    let waits = said_waits (seen mid.session.now) (seen c.remote_input.new.self) c.args.player c.args.frame c.args.word
    (remote_refusal (seen mid.session.now) c.args.player c.args.frame) mid.held.now c.remote_input.result said.heard said.refused in (
      told_all.same_session,
      (
        told_all.same_held,
        (
          wait_more (seen old.session.now) (seen mid.session.now) (seen c.remote_input.new.self) old.held.now mid.held.now mid.held.now
              told_all.waits waits,
          (
            after_all (seen old.session.now) (seen mid.session.now) (seen c.remote_input.new.self) old.held.now.words.items
                mid.held.now.words.items old.reserved mid.reserved told_all.session told_all.none
                (same_room (seen mid.session.now) (seen c.remote_input.new.self) old.reserved mid.reserved same told_all.reserved),
            g.S.Networked.keeps_on old.session.now mid.session.now c.remote_input.new.self told_all.keeps said.keeps,
          ),
        ),
      ),
    )

pub returns-in-Err-remote_input-clause-keeps : goal.returns-in-Err-remote_input-clause-keeps
returns-in-Err-remote_input-clause-keeps g c =
    let old = c.args.self.now in
    let mid = c.tell_all.new.self in
    let seen = g.S.Networked.seen in
    let told_all = c.tell_all.ensures in
    let said = c.remote_input.ensures in
    let same = c.in-Err-remote_input.ensures.refused.unchanged in
    let waits = said_waits (seen mid.session.now) (seen c.remote_input.new.self) c.args.player c.args.frame c.args.word
    (remote_refusal (seen mid.session.now) c.args.player c.args.frame) mid.held.now c.remote_input.result said.heard said.refused in (
      told_all.same_session,
      (
        told_all.same_held,
        (
          wait_more (seen old.session.now) (seen mid.session.now) (seen c.remote_input.new.self) old.held.now mid.held.now mid.held.now
              told_all.waits waits,
          (
            after_all (seen old.session.now) (seen mid.session.now) (seen c.remote_input.new.self) old.held.now.words.items
                mid.held.now.words.items old.reserved mid.reserved told_all.session told_all.none
                (same_room (seen mid.session.now) (seen c.remote_input.new.self) old.reserved mid.reserved same told_all.reserved),
            g.S.Networked.keeps_on old.session.now mid.session.now c.remote_input.new.self told_all.keeps said.keeps,
          ),
        ),
      ),
    )

pub returns-in-Err-clause-keeps : goal.returns-in-Err-clause-keeps
returns-in-Err-clause-keeps g c =
    let old = c.args.self.now in
    let mid = c.make_room.new.self in
    let seen = g.S.Networked.seen in
    let i = c.in-Err.ensures in
    let same : told (seen mid.session.now) mid.held.now.words.items ≡ told (seen old.session.now) old.held.now.words.items =
    ap (λ s. told (seen s) mid.held.now.words.items) i.unmade ∙ ap (told (seen old.session.now)) i.words in (
      i.same_session,
      (
        i.same_held,
        (
          i.waits,
          (
            same_room (told (seen old.session.now) old.held.now.words.items) (told (seen mid.session.now) mid.held.now.words.items) old.reserved
                mid.reserved same i.reserved,
            i.keeps,
          ),
        ),
      ),
    )
