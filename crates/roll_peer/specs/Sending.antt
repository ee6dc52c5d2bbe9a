-- What is sent.
use Rattle.std.specs.Prelude.{◌≡◌, ℕ, List, ◌-◌, ◌%◌, length, Bool, true, false, not, ◌&&◌, ◌||◌, ◌==◌, nat_le, nat_lt, Option, Some, None, if◌then◌else◌, slice_set}
use Rattle.roll_contact.specs.Contacts.{clocks_for, hello_echo, hello_sent, is_playing, play_sent, says_hello, wants_clocks}
use Rattle.roll_contact.specs.Keys.{greeting_key}
use Rattle.roll_contact.specs.Seals.{message_by, said_by}
use Rattle.roll_contact.specs.Terms.{hello_of}
use Rattle.roll_contact.specs.declared.contact.Contact.{Contact}
use Rattle.roll_contact.specs.declared.key.Key.{Key}
use Rattle.roll_member.specs.Telling.{queued, IsTold}
use Rattle.roll_mesh.specs.Machines.{is_in, shortened}
use Rattle.roll_mesh.specs.declared.packet.Packet.{Packet}
use Rattle.roll_wire.specs.Spelling.{Content, Fits, Greets, Leaves, Plays, Turn}
use Rattle.roll_wire.specs.declared.datagram.Clocks.{Clocks}
use Rattle.roll_wire.specs.declared.datagram.Settled.{Settled}
use Rattle.roll_session.specs.Seen.{Seen}
use Rattle.roll_peer.specs.Marks.{told_marks}
use Rattle.roll_peer.specs.Comparisons.{seeking, sought}
use Rattle.roll_peer.specs.Peered.{beside, comparison_at, contact_at, Peered}
use Rattle.roll_peer.specs.Receiving.{moment_of}
use Rattle.roll_peer.specs.Settings.{number_for, opening_of, terms_of}
use Rattle.roll_peer.specs.declared.sending.TheConstants.{SETTLED_EVERY}
use Rattle.roll_peer.specs.declared.stats.Stats.{Stats}

-- whether nothing is sent to a machine: there is none, it is this one, or it is gone
abbrev pub is_lost : Peered → ℕ → Bool
is_lost peer m =
    nat_le peer.member.mesh.seat.machines m
    || ((m == peer.member.mesh.seat.me) || is_in peer.member.mesh.machine.gone m)

-- in some packets a machine tells how far it is, and when it sent
abbrev pub clocks_in : ℕ → Peered → Contact → Option Clocks
clocks_in frame peer contact =
    if wants_clocks contact (moment_of peer)
    then Some (clocks_for contact frame (moment_of peer)) else None

-- in others the digest of the last settled state; to a machine whose states differ one in each, by which the first frame that does is
-- sought
abbrev pub settled_by : Option ℕ → Peered → ℕ → (number : ℕ) → Option Settled
settled_by None peer m number = if number % SETTLED_EVERY == 1 then peer.digests.last else None
settled_by (Some differs) peer m number = seeking peer.digests number (comparison_at peer m) differs

abbrev pub settled_in : Peered → ℕ → (number : ℕ) → Option Settled
settled_in peer m number = settled_by (sought (moment_of peer) (comparison_at peer m)) peer m number

-- a turn tells a machine what it hasn't said that it has, without offers of no words, and all marks of words that it
-- has
pub record IsPlayFor (s : Seen) (peer : Peered) (m : ℕ) (t : Turn) : Type 0 where
  pub packet : Packet
  pub told : IsTold (beside s peer) m packet t.words
  pub view : t.head.view ≡ packet.view
  pub offers : t.head.offers ≡ (shortened packet).offers
  pub number : t.head.number ≡ (contact_at peer m).sent
  pub clocks : t.head.clocks ≡ clocks_in s.core.frame peer (contact_at peer m)
  pub settled : t.head.settled ≡ settled_in peer m (contact_at peer m).sent
  pub marks : t.marks ≡ told_marks t.head.offers peer.member.mesh.machine.has peer.marks

-- a machine that plays with this one is told what it hasn't said that it has; any other is greeted
abbrev pub IsContentFor : Seen → Peered → ℕ → Content → Type 0
IsContentFor s peer m (Plays t) =
    (says_hello (contact_at peer m) ≡ false) × IsPlayFor s peer m t
IsContentFor s peer m (Greets hello) =
    (says_hello (contact_at peer m) ≡ true)
    × (hello ≡ hello_of (terms_of peer.settings) (opening_of peer.settings) (hello_echo (contact_at peer m)))
IsContentFor s peer m (Leaves why) = ⊥

-- by what a datagram for a machine is sealed
abbrev pub with_draws : Peered → ℕ → Key
with_draws peer m = record {
  number = number_for peer.settings m;
  from = peer.settings.draw;
  to = (contact_at peer m).draw;
}

abbrev pub key_for : Peered → ℕ → Content → Key
key_for peer m (Greets hello) = greeting_key (number_for peer.settings m)
key_for peer m (Plays t) = with_draws peer m
key_for peer m (Leaves why) = with_draws peer m

-- the bytes by which it says something to a machine
unfoldable pub text_for : Peered → ℕ → Content → List ℕ
text_for peer m what = said_by (key_for peer m what) peer.settings.me what

-- the bytes are a datagram for a machine, which has a spelling, sealed for its opening and this one
pub record IsSent (s : Seen) (peer : Peered) (m : ℕ) (bytes : List ℕ) : Type 0 where
  pub content : Content
  pub fits : IsContentFor s peer m content
  pub spelled : Fits (message_by (key_for peer m content) peer.settings.me content)
  pub text : bytes ≡ text_for peer m content

-- whether a machine and this one hand on datagrams for each other
unfoldable pub can_carry : Peered → ℕ → Bool
can_carry peer m =
    not (is_lost peer m)
    && (nat_lt m (length peer.contacts)
    && (is_playing (contact_at peer m).stage && (contact_at peer m).carries))

-- by what it is sealed that this machine hands a machine, and what that one hands this
abbrev pub carrier_key : Peered → ℕ → Option Key
carrier_key peer m = if can_carry peer m then Some (with_draws peer m) else None

abbrev pub carried_key : Peered → ℕ → Option Key
carried_key peer m =
    if can_carry peer m then Some (record {
      number = number_for peer.settings m;
      from = (contact_at peer m).draw;
      to = peer.settings.draw;
    }) else None

-- what was counted and measured of a machine
unfoldable pub stats_of : Peered → ℕ → Stats
stats_of peer m = record {
  round_trip = (contact_at peer m).round_trip;
  sent = (contact_at peer m).sent;
  received = (contact_at peer m).received;
  lost = (contact_at peer m).expected - (contact_at peer m).received;
  words_queued = if is_lost peer m then 0 else queued peer.member.mesh m;
  frames_behind = (contact_at peer m).behind;
  their_frames_behind = (contact_at peer m).their_behind;
  refused = (contact_at peer m).refused;
  dropped = (contact_at peer m).dropped;
  restarted = not ((contact_at peer m).restarted == 0);
}

-- what is known of a machine to which a datagram was sent
abbrev pub with_sent : ℕ → Contact → Contact
with_sent now contact = if says_hello contact then hello_sent contact else play_sent now contact

-- a datagram more was sent to a machine
unfoldable pub after_send : Peered → ℕ → Peered
after_send peer m =
    if is_lost peer m then peer
    else record peer {
      contacts = slice_set peer.contacts m (with_sent (moment_of peer) (contact_at peer m));
    }
