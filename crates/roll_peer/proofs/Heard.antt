-- What is known of who is heard.
use Rattle.std.proofs.Common.{◌≡◌, ◌∙◌, ℕ, ap, subst, sym, refl, Bool, true, false, Some, None}
use Rattle.std.specs.Prelude.{is_some, nat_le, not, ◌==◌, ◌&&◌, if◌then◌else◌}
use Rattle.roll_mesh.proofs.Changes.{none_some}
use Rattle.std.proofs.lemmas.Bool.{and_parts}
use Rattle.roll_mesh.specs.Groups.{is_even}
use Rattle.roll_mesh.specs.Machines.{is_in}
use Rattle.roll_mesh.specs.Meshes.{hear_refusal, is_had, leave_refusal}
use Rattle.roll_mesh.specs.declared.packet.Packet.{Packet}
use Rattle.roll_mesh.specs.declared.refusal.MeshRefusal.TheVariants.{InvalidMachine as NoMachine, OwnMachine as Own, MachineGone as IsGone, Overstated as HasMore, Uneven as HasParts}
use Rattle.roll_member.specs.Hearing.{HearsPacket}
use Rattle.roll_member.specs.declared.member.Taken.{Taken}
use Rattle.roll_session.specs.Seen.{Seen, Step}
use Rattle.roll_wire.specs.Spelling.{Turn}
use Rattle.roll_peer.specs.Judging.{are_its_machines, are_its_players, are_no_more, is_inside}
use Rattle.roll_peer.specs.CutOffs.{over_if}
use Rattle.roll_peer.specs.Disputes.{disputed}
use Rattle.roll_peer.specs.Peered.{beside, contact_at, Peered}
use Rattle.roll_contact.specs.declared.contact.Contact.{Contact}
use Rattle.roll_peer.specs.Receiving.{after_words, deaf_to, end_for, is_dropped, knowing, marks_after, moment_of, packet_of, unplayed, HearsTurn}
use Rattle.roll_peer.specs.declared.received.Ignored.TheVariants.{InvalidMachine, OwnMachine, MachineGone, Outside, Overstated as SaysMore}

-- a packet that may be played has the same of all words of an input
even_of : (peer : Peered) (packet : Packet) → unplayed peer packet ≡ None
    → is_even peer.member.mesh.seat packet ≡ true
even_of peer packet h =
    (and_parts (are_its_machines peer.member.mesh.seat packet && are_its_players peer.member.mesh.seat packet)
    (is_even peer.member.mesh.seat packet) (go (is_inside peer.member.mesh.seat packet)
    (are_no_more peer.member.mesh.seat peer.member.mesh.machine.has packet) h)).1
  where
    go : (a b : Bool) → (if not a then Some Outside else (if not b then Some SaysMore else None)) ≡ None
        → a ≡ true
    go true b e = refl
    go false b e = absurd (none_some Outside (sym e))

-- a packet of who is heard is refused only for words that its sender doesn't have
pub heard_of : (peer : Peered) (packet : Packet) → deaf_to peer packet.sender ≡ None
    → unplayed peer packet ≡ None
    → is_some (hear_refusal peer.member.mesh packet) ≡ not (is_had packet)
heard_of peer packet h played =
    go (nat_le peer.member.mesh.seat.machines packet.sender) (packet.sender == peer.member.mesh.seat.me)
    (is_in peer.member.mesh.machine.gone packet.sender) (is_had packet)
    (is_even peer.member.mesh.seat packet) h (even_of peer packet played)
  where
    go : (a b c d f : Bool) → (if a then Some InvalidMachine else (if b then Some OwnMachine else
        (if c then Some MachineGone else None))) ≡ None → f ≡ true
        → is_some (if a then Some NoMachine else (if b then Some Own else
        (if c then Some IsGone else (if not d then Some HasMore else
        (if f then None else Some HasParts))))) ≡ not d
    go false false false true f e even = rw even refl
    go false false false false f e even = refl
    go false false true d f e even = absurd (none_some MachineGone (sym e))
    go false true c d f e even = absurd (none_some OwnMachine (sym e))
    go true b c d f e even = absurd (none_some InvalidMachine (sym e))

-- who is heard can be regarded as gone
pub left_by : (peer : Peered) (sender : ℕ) → deaf_to peer sender ≡ None
    → leave_refusal peer.member.mesh sender ≡ None
left_by peer sender h =
    go (nat_le peer.member.mesh.seat.machines sender) (sender == peer.member.mesh.seat.me)
    (is_in peer.member.mesh.machine.gone sender) h
  where
    go : (a b c : Bool) → (if a then Some InvalidMachine else (if b then Some OwnMachine else
        (if c then Some MachineGone else None))) ≡ None
        → (if a then Some NoMachine else (if b then Some Own else None)) ≡ None
    go false false c e = refl
    go false true c e = absurd (none_some OwnMachine (sym e))
    go true b c e = absurd (none_some InvalidMachine (sym e))

-- a turn that session and mesh heard, and of which is known what it tells, is heard
pub turn_heard : (step : Step) (before after : Seen) (old mid known new : Peered) (sender : ℕ) (t : Turn)
    (taken : Taken)
    → HearsPacket step (beside before old) (beside after mid) (packet_of sender t) t.words (end_for old t) taken
    → mid ≡ record old { member = mid.member; marks = marks_after old mid.member t }
    → mid.member.limits ≡ old.member.limits
    → known ≡ knowing t sender
    (after_words (is_some taken.refusal) (is_dropped taken.heard) t.head before.core.frame (moment_of mid) (contact_at mid sender)) mid
    → new ≡ over_if (is_dropped taken.heard) (disputed sender t known)
    → HearsTurn step before after old new sender t taken
turn_heard step before after old mid known new sender t taken hears rest limits knows tells =
    let contact : Peered → Contact =
    λ p. after_words (is_some taken.refusal) (is_dropped taken.heard) t.head before.core.frame (moment_of p) (contact_at p sender) in
    let last : Peered → Peered = λ p. over_if (is_dropped taken.heard) (disputed sender t p) in
    let whole : new ≡ last (knowing t sender (contact mid) mid) = tells ∙ ap last knows in
    subst (λ (p : Peered). HearsTurn step before after old p sender t taken) (sym whole)
    (record {
      member = hears;
      limits = limits;
      rest = ap (λ (p : Peered). last (knowing t sender (contact p) p)) rest;
    })
