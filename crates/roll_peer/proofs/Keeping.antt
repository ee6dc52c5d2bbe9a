-- Calls that neither put nor hear a mark: those that are known stay, and so do the counts of others' players.
use Rattle.std.proofs.Common.{◌≡◌, ◌∙◌, ◌⊎◌, ℕ, ◌<◌, ◌≤◌, length, refl, ap, sym, subst, arith, Bool, true, false, inl, inr, Option, Result, Ok, Err}
use Rattle.std.specs.Prelude.{◌==◌, if◌then◌else◌, is_none, slice_index}
use Rattle.std.proofs.lemmas.Bool.{cases_lt}
use Rattle.std.proofs.lemmas.List.{get_or_past}
use Rattle.roll_frame.specs.declared.refusal.Refusal.{Refusal}
use Rattle.roll_mesh.proofs.Changes.{leave_has, left_has}
use Rattle.roll_mesh.proofs.Places.{at_place, past_places}
use Rattle.roll_mesh.specs.declared.limits.TheConstants.{PLAYER_LIMIT}
use Rattle.roll_mesh.specs.declared.seat.Seat.{Seat}
use Rattle.roll_mesh.specs.Machines.{leave, owner_of}
use Rattle.roll_mesh.specs.Meshes.{leave_refusal, stepped, Seated}
use Rattle.roll_session.specs.Seen.{Seen}
use Rattle.roll_member.specs.Beside.{IsOf}
use Rattle.roll_member.specs.Joined.{known}
use Rattle.roll_member.proofs.Beside.{near_at, IsNearAt}
use Rattle.roll_peer.specs.MarkLaws.{has_of}
use Rattle.roll_peer.specs.Peered.{Peered}
use Rattle.roll_peer.specs.Receiving.{meeting, moment_of}
use Rattle.roll_peer.specs.Turning.{begun, looked_after, moved_to, without, IsParted, IsPolled, Polls}
use Rattle.roll_peer.specs.declared.refusal.PeerRefusal.{PeerRefusal}
use Rattle.roll_peer.specs.declared.refusal.PeerRefusal.TheVariants.{OtherSession, Session}
use Rattle.roll_peer.proofs.Polling.{begun_like, like_as, seen_so, AreLike}

-- whether a player is the machine's own
abbrev pub is_own : Peered → ℕ → Bool
is_own peer p = owner_of peer.member.mesh.seat p == peer.member.mesh.seat.me

pub record Stays (old new : Peered) : Type 0 where
  pub marks : new.marks ≡ old.marks
  pub seat : new.member.mesh.seat ≡ old.member.mesh.seat
  pub more : (p : ℕ) → p < PLAYER_LIMIT → has_of old p ≤ has_of new p
  pub counts : (p : ℕ) → p < PLAYER_LIMIT → is_own old p ≡ false → has_of new p ≡ has_of old p

stays_same : (old new : Peered) → new.marks ≡ old.marks → new.member.mesh.seat ≡ old.member.mesh.seat
    → new.member.mesh.machine.has ≡ old.member.mesh.machine.has → Stays old new
stays_same old new marks seat has = record {
  marks = marks;
  seat = seat;
  more = λ p l. omega (arith, at p);
  counts = λ p l own. at p;
}
  where
    at : (p : ℕ) → has_of new p ≡ has_of old p
    at p = ap (λ ns. slice_index ns p) has

pub stays_like : (old new : Peered) → AreLike old new → Stays old new
stays_like old new same =
    stays_same old new same.2 (ap (λ (m : Seated). m.seat) same.0) (ap (λ (m : Seated). m.machine.has) same.0)

pub stays_on : (old mid new : Peered) → Stays old mid → Stays mid new → Stays old new
stays_on old mid new a b = record {
  marks = b.marks ∙ a.marks;
  seat = b.seat ∙ a.seat;
  more = λ p l. omega (arith, a.more p l, b.more p l);
  counts = λ p l own. b.counts p l (ap (λ (seat : Seat). owner_of seat p == seat.me) a.seat ∙ own) ∙ a.counts p l own;
}

-- a session is met: there may be more words of its own players
pub stays_met : (s : Seen) (peer : Peered) → IsOf s peer.member → Stays peer (meeting s peer)
stays_met s peer own = record {
  marks = refl;
  seat = refl;
  more = λ p l. more p l (cases_lt p (length mesh.machine.has));
  counts = λ p l isnt. counts p l isnt (cases_lt p (length mesh.machine.has));
}
  where
    mesh : Seated
    mesh = peer.member.mesh

    near : (p : ℕ) → p < PLAYER_LIMIT → IsNearAt s mesh p
    near p l = near_at s mesh own.near p l

    inside : (p : ℕ) → p < length mesh.machine.has → has_of (meeting s peer) p ≡ known s mesh.seat p
    inside p l = at_place (known s mesh.seat) mesh.machine.has p 0 l

    past : (p : ℕ) → length mesh.machine.has ≤ p → has_of (meeting s peer) p ≡ has_of peer p
    past p g = past_places (known s mesh.seat) mesh.machine.has p 0 g ∙ sym (get_or_past mesh.machine.has p 0 g)

    more : (p : ℕ) → p < PLAYER_LIMIT → (p < length mesh.machine.has) ⊎ (length mesh.machine.has ≤ p)
        → has_of peer p ≤ has_of (meeting s peer) p
    more p l (inl i) = omega (arith, inside p i, (near p l).few)
    more p l (inr g) = omega (arith, past p g)

    counts : (p : ℕ) → p < PLAYER_LIMIT → is_own peer p ≡ false
        → (p < length mesh.machine.has) ⊎ (length mesh.machine.has ≤ p) → has_of (meeting s peer) p ≡ has_of peer p
    counts p l isnt (inl i) = inside p i ∙ sym ((near p l).all isnt)
    counts p l isnt (inr g) = past p g

-- a machine is gone
pub stays_left : (peer : Peered) (m : ℕ) → Stays peer (record peer {
  member = record peer.member { mesh = stepped (λ seat here. leave seat m here) peer.member.mesh };
})
stays_left peer m = stays_same peer _ refl refl (leave_has peer.member.mesh.seat m peer.member.mesh.machine)

stays_without : (peer : Peered) (m : ℕ)
    → Stays peer (record peer { member = record peer.member { mesh = without m peer.member.mesh } })
stays_without peer m = go (is_none (leave_refusal peer.member.mesh m))
  where
    go : (b : Bool) → Stays peer (record peer {
      member = record peer.member {
        mesh = if b then stepped (λ seat machine. leave seat m machine) peer.member.mesh else peer.member.mesh;
      };
    })
    go true = stays_left peer m
    go false = stays_same peer peer refl refl refl

-- ---- a poll

stays_parted : (before after : Seen) (old new : Peered) (refusal : Option Refusal) → IsParted before after old new refusal
    → Stays old new
stays_parted before after old new refusal parted =
    stays_same old new (ap (λ (p : Peered). p.marks) parted.rest) (ap (λ (m : Seated). m.seat) parted.leaves.mesh)
    (ap (λ (m : Seated). m.machine.has) parted.leaves.mesh
    ∙ left_has old.member.mesh.seat old.member.mesh.machine)

stays_polls : (before after : Seen) (old new : Peered) (refusal : Option Refusal) → Polls before after old new refusal
    → Stays old new
stays_polls before after old new refusal polls =
    stays_on old seen new looked
    (stays_on seen polls.parted new (stays_parted before after seen polls.parted refusal polls.parts)
    (stays_like polls.parted new (like_as polls.parted (begun polls.parted) new polls.begins (begun_like polls.parted))))
  where
    seen : Peered
    seen = looked_after (moment_of old) old.settings.machines (moved_to before.core.frame old)

    looked : Stays old seen
    looked =
        seen_so (Stays old) (λ was now same at. stays_on old was now at (stays_like was now same))
        (λ was m at. stays_on old was _ at (stays_without was m))
        (moment_of old) old.settings.machines before.core.frame old (stays_same old old refl refl refl)

pub stays_polled : (before after : Seen) (old new : Peered) (result : Result Unit PeerRefusal)
    → IsPolled before after old new result → Stays old new
stays_polled before after old new (Ok done) polled =
    stays_on old (meeting before old) new (stays_met before old polled.0)
    (stays_polls before after (meeting before old) new _ polled.1)
stays_polled before after old new (Err OtherSession) polled =
    subst (λ (p : Peered). Stays old p) (sym polled.1) (stays_same old old refl refl refl)
stays_polled before after old new (Err (Session why)) polled =
    stays_on old (meeting before old) new (stays_met before old polled.0)
    (stays_polls before after (meeting before old) new _ polled.1)
