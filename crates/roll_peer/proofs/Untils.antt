-- What is done machine by machine, or player by player: nothing for none of them, and one more after the first so many.
use Rattle.std.proofs.Common.{◌≡◌, ℕ, suc, ◌+◌, List, Bool, Option, None, arith, refl}
use Rattle.std.specs.Prelude.{min, slice_index_or}
use Rattle.roll_mesh.specs.Machines.{is_in}
use Rattle.roll_wire.specs.declared.datagram.Marked.{Marked}
use Rattle.roll_peer.specs.Digests.{if_between, middle, nearer, nearest_among}
use Rattle.roll_peer.specs.Marks.{end_among, end_by, mark_at}
use Rattle.roll_peer.specs.Notices.{told, told_of}
use Rattle.roll_peer.specs.Paces.{lead_of, slower, slowest}
use Rattle.roll_peer.specs.Peered.{Peered}
use Rattle.roll_peer.specs.Turning.{desync_at, desync_until, farewell_at, farewell_until, hushed_at, hushed_until, missed_at, missed_until, silenced_at, silenced_until, watched_at, watched_until}
use Rattle.roll_peer.specs.Waiting.{Waiting}
use Rattle.roll_contact.specs.declared.contact.Contact.{Contact}
use Rattle.roll_peer.specs.declared.digests.Digests.{Digests}
use Rattle.roll_peer.specs.declared.event.PeerEvent.{PeerEvent}
use Rattle.roll_peer.specs.declared.marking.TheConstants.{NO_END}

after : (n : ℕ) → n + 1 ≡ suc n
after n = omega arith

pub told_none : (event : ℕ → Option PeerEvent) (waiting : Waiting) → told_of event 0 waiting ≡ waiting
unfolding told_of
told_none event waiting = refl

pub told_next : (event : ℕ → Option PeerEvent) (n : ℕ) (waiting : Waiting)
    → told_of event (n + 1) waiting ≡ told (told_of event n waiting) (event n)
unfolding told_of
told_next event n waiting = rw (after n) refl

pub hushed_none : (now : ℕ) (peer : Peered) → hushed_until now 0 peer ≡ peer
unfolding hushed_until
hushed_none now peer = refl

pub hushed_next : (now m : ℕ) (peer : Peered)
    → hushed_until now (m + 1) peer ≡ hushed_at now m (hushed_until now m peer)
unfolding hushed_until
hushed_next now m peer = rw (after m) refl

pub farewell_none : (peer : Peered) → farewell_until 0 peer ≡ peer
unfolding farewell_until
farewell_none peer = refl

pub farewell_next : (m : ℕ) (peer : Peered)
    → farewell_until (m + 1) peer ≡ farewell_at m (farewell_until m peer)
unfolding farewell_until
farewell_next m peer = rw (after m) refl

pub slowest_none : (gone : List Bool) (contacts : List Contact) → slowest gone contacts 0 ≡ None
unfolding slowest
slowest_none gone contacts = refl

pub slowest_next : (gone : List Bool) (contacts : List Contact) (m : ℕ)
    → slowest gone contacts (m + 1) ≡ slower (slowest gone contacts m) (lead_of gone contacts m)
unfolding slowest
slowest_next gone contacts m = rw (after m) refl

pub watched_none : (now : ℕ) (peer : Peered) → watched_until now 0 peer ≡ peer
unfolding watched_until
watched_none now peer = refl

pub watched_next : (now m : ℕ) (peer : Peered)
    → watched_until now (m + 1) peer ≡ watched_at now m (watched_until now m peer)
unfolding watched_until
watched_next now m peer = rw (after m) refl

pub missed_none : (now : ℕ) (peer : Peered) → missed_until now 0 peer ≡ peer
unfolding missed_until
missed_none now peer = refl

pub missed_next : (now m : ℕ) (peer : Peered)
    → missed_until now (m + 1) peer ≡ missed_at now m (missed_until now m peer)
unfolding missed_until
missed_next now m peer = rw (after m) refl

pub silenced_none : (now : ℕ) (peer : Peered) → silenced_until now 0 peer ≡ peer
unfolding silenced_until
silenced_none now peer = refl

pub silenced_next : (now m : ℕ) (peer : Peered)
    → silenced_until now (m + 1) peer ≡ silenced_at now m (silenced_until now m peer)
unfolding silenced_until
silenced_next now m peer = rw (after m) refl

pub end_none : (voids : List Bool) (marks : List (Option Marked)) → end_among voids marks 0 ≡ NO_END
unfolding end_among
end_none voids marks = refl

pub end_next : (voids : List Bool) (marks : List (Option Marked)) (p : ℕ)
    → end_among voids marks (p + 1) ≡ min (end_among voids marks p) (end_by (is_in voids p) (mark_at marks p))
unfolding end_among
end_next voids marks p = rw (after p) refl

pub desync_none : (now : ℕ) (peer : Peered) → desync_until now 0 peer ≡ peer
unfolding desync_until
desync_none now peer = refl

pub desync_next : (now m : ℕ) (peer : Peered)
    → desync_until now (m + 1) peer ≡ desync_at now m (desync_until now m peer)
unfolding desync_until
desync_next now m peer = rw (after m) refl

pub nearest_none : (digests : Digests) (from to : ℕ) → nearest_among digests from to 0 ≡ None
unfolding nearest_among
nearest_none digests from to = refl

pub nearest_next : (digests : Digests) (from to n : ℕ) → nearest_among digests from to (n + 1)
    ≡ nearer (middle from to) (nearest_among digests from to n) (if_between from to (slice_index_or digests.places n None))
unfolding nearest_among
nearest_next digests from to n = rw (after n) refl
