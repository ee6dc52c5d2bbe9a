use Rattle.std.proofs.Common.{◌≡◌, ◌∙◌, ap, refl}
use Rattle.std.proofs.lemmas.Bool.{and_from}
use Rattle.std.specs.Prelude.{◌==◌, ◌&&◌, length, nat_le, slice_index_or}
use Rattle.roll_contact.specs.Contacts.{opened_contact}
use Rattle.roll_contact.specs.declared.contact.Contact.{Contact}
use Rattle.roll_mesh.specs.declared.packet.Packet.{Packet}
use Rattle.roll_wire.specs.Spelling.{are_offers, are_spelled, count_of}
use Rattle.roll_wire.specs.declared.limits.TheConstants.{WORD_LIMIT}
use Rattle.roll_peer.specs.Peered.{contact_at, Peered}
use Rattle.roll_peer.specs.Sending.{clocks_in, settled_in}
use Rattle.roll_peer.proofs.Sent.{still_whole}
use Rattle.roll_peer.proofs.peer.Peer.play_for.Goals as goal

pub returns-clause-told : goal.returns-clause-told
returns-clause-told g c =
    let peer : Peered = c.args.self.now in
    let contact : slice_index_or c.self.inside.contacts c.from.result opened_contact ≡ contact_at peer c.args.machine =
    rw (← c.self.view_is, c.from.ensures) refl in
    record {
      packet = c.tell-words.result.packet;
      told = rw (← c.self.view_is) c.tell-words.ensures;
      view = ap (λ (p : Packet). p.view) c.shortened.ensures;
      offers = ap (λ (p : Packet). p.offers) c.shortened.ensures;
      number = ap (λ (k : Contact). k.sent) contact;
      clocks = c.clocks_for.ensures ∙ ap (λ n. clocks_in n peer (slice_index_or c.self.inside.contacts c.from.result opened_contact)) c.frame.ensures
          ∙ ap (clocks_in (g.S.Networked.seen c.args.session.now).core.frame peer) contact;
      settled = c.settled_for.ensures ∙ ap (λ (k : Contact). settled_in peer c.args.machine k.sent) contact;
      marks = c.told_marks-marks.ensures.marks;
    }

pub returns-clause-whole : goal.returns-clause-whole
returns-clause-whole g c =
    and_from (are_offers c.shortened.result.offers
    && (count_of c.shortened.result.offers == length c.tell-words.result.words.items)
    && nat_le (length c.tell-words.result.words.items) WORD_LIMIT) (are_spelled c.told_marks-marks.result)
    (rw (c.shortened.ensures)
    (still_whole c.tell-words.result.packet.offers c.tell-words.result.words.items c.tell-words.ensures.whole))
    c.told_marks-marks.ensures.spelled
