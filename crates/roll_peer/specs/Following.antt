-- How the network of a match goes on in its next epoch: a part of the match with a session, owners and frames of its own.
use Rattle.std.specs.Prelude.{◌≡◌, ℕ, List, map, filter, Bool, true, false, not, ◌&&◌, ◌==◌, nat_lt, Option, None, if◌then◌else◌, replicate, slice_index_or}
use Rattle.std.specs.List.{range_with_len}
use Rattle.roll_contact.specs.Contacts.{heard_too, is_one_opening, opened_contact}
use Rattle.roll_contact.specs.declared.contact.Contact.{Contact}
use Rattle.roll_mesh.specs.declared.limits.TheConstants.{MACHINE_LIMIT, PLAYER_LIMIT}
use Rattle.roll_mesh.specs.Machines.{is_in}
use Rattle.roll_session.specs.Seen.{Seen}
use Rattle.roll_peer.specs.Comparisons.{no_comparison}
use Rattle.roll_peer.specs.Digests.{no_digests}
use Rattle.roll_peer.specs.Disputes.{dispute_at, dispute_told}
use Rattle.roll_peer.specs.Paces.{no_pace}
use Rattle.roll_peer.specs.Peered.{contact_at, first_cut_off, BeginsAs, Peered}
use Rattle.roll_peer.specs.Receiving.{knowing_of, moment_of}
use Rattle.roll_peer.specs.Sending.{is_lost}
use Rattle.roll_peer.specs.Stalls.{first_stall}
use Rattle.roll_peer.specs.Strangers.{no_strangers}
use Rattle.roll_peer.specs.Turning.{has_begun}
use Rattle.roll_peer.specs.declared.following.Seating.{Seating}
use Rattle.roll_peer.specs.declared.following.Seating.TheVariants.{Stays, Comes, Empty}
use Rattle.roll_peer.specs.declared.settings.MatchSettings.{MatchSettings}
use Rattle.roll_peer.specs.declared.stall.Stall.{Stall}

abbrev pub seating_at : List Seating → ℕ → Seating
seating_at seating m = slice_index_or seating m Empty

-- whether nobody is heard at a place at first
abbrev pub is_out : Seating → Bool → Bool
is_out Stays was_gone = was_gone
is_out Comes was_gone = false
is_out Empty was_gone = true

-- whether a machine is gone as the next epoch begins: nobody sits there, or it was gone before
abbrev pub begins_without : Peered → MatchSettings → List Seating → ℕ → Bool
begins_without old settings seating m =
    nat_lt m settings.machines && (not (m == settings.me)
    && is_out (seating_at seating m) (is_in old.member.mesh.machine.gone m))

abbrev pub gone_first : Peered → MatchSettings → List Seating → List ℕ
gone_first old settings seating = filter (begins_without old settings seating) (range_with_len 0 MACHINE_LIMIT)

-- what is known of a machine: all that was, if it stays
abbrev pub contact_next : Seating → Contact → Contact
contact_next Stays before = before
contact_next Comes before = opened_contact
contact_next Empty before = opened_contact

abbrev pub contacts_next : Peered → List Seating → List Contact
contacts_next old seating =
    map (λ m. contact_next (seating_at seating m) (contact_at old m)) (range_with_len 0 MACHINE_LIMIT)

-- of which machines the program was told that they are gone
abbrev pub known_next : Peered → List Seating → List Bool
known_next old seating = map (λ m. is_out (seating_at seating m) (is_in old.known_gone m)) (range_with_len 0 MACHINE_LIMIT)

-- of which player it was told that a machine knows another mark, if it stays
abbrev pub dispute_next : Seating → Option ℕ → Option ℕ
dispute_next Stays before = before
dispute_next Comes before = None
dispute_next Empty before = None

abbrev pub disputes_next : Peered → List Seating → List (Option ℕ)
disputes_next old seating =
    map (λ m. dispute_next (seating_at seating m) (dispute_at old m)) (range_with_len 0 MACHINE_LIMIT)

-- for how long a machine has held up the match: not yet; but it is known that it has begun, if it stays
abbrev pub stall_next : Seating → Bool → Stall
stall_next Stays has_begun = record first_stall { begun = has_begun }
stall_next Comes has_begun = first_stall
stall_next Empty has_begun = first_stall

abbrev pub stalls_next : Peered → List Seating → List Stall
stalls_next old seating = map (λ m. stall_next (seating_at seating m) (has_begun old m)) (range_with_len 0 MACHINE_LIMIT)

-- a network that was opened after that of the epoch before: it goes on with those who stay
pub record IsFollowedAs (s : Seen) (settings : MatchSettings) (old : Peered) (seating : List Seating) (peer : Peered) : Type 0 where
  pub begins : BeginsAs s settings (gone_first old settings seating) peer
  pub limits : peer.member.limits ≡ s.settings
  pub clock : peer.clock ≡ old.clock
  pub contacts : peer.contacts ≡ contacts_next old seating
  pub stalls : peer.stalls ≡ stalls_next old seating
  pub running : peer.running ≡ old.running
  pub waiting : peer.waiting ≡ old.waiting
  pub known_gone : peer.known_gone ≡ known_next old seating
  pub digests : peer.digests ≡ no_digests
  pub comparisons : peer.comparisons ≡ replicate MACHINE_LIMIT no_comparison
  pub pace : peer.pace ≡ no_pace
  pub frame : peer.frame ≡ s.core.frame
  pub cut_off : peer.cut_off ≡ first_cut_off
  pub marks : peer.marks ≡ replicate PLAYER_LIMIT None
  pub voids : peer.voids ≡ replicate PLAYER_LIMIT false
  pub disputes : peer.disputes ≡ disputes_next old seating
  pub opened : peer.opened ≡ moment_of old
  pub strangers : peer.strangers ≡ no_strangers
  pub follows : peer.follows ≡ true

-- ---- two networks of one machine, of epochs that follow one another

-- of which player the other network has told that a machine knows another mark, if both play with the same opening of it
abbrev pub dispute_beside : (peer other : Peered) → ℕ → Option ℕ
dispute_beside peer other m =
    if is_one_opening (contact_at peer m) (contact_at other m) then dispute_at other m else None

-- a machine is heard too where another network of this machine hears the same opening of it, and that is told, and what is known of its
-- marks; unless there is no such other machine, or it is gone
abbrev pub heard_beside : ℕ → Peered → Peered → Peered
heard_beside m other peer =
    if is_lost peer m then peer
    else dispute_told m (dispute_beside peer other m)
    (knowing_of m (heard_too (contact_at other m) (moment_of peer) (contact_at peer m)) peer)
