-- Laws of the network of a match.
use Rattle.std.specs.Prelude.{◌≡◌, ◌<◌, ℕ, List, get_or, Bool, true, false, nat_lt, Option, Some, None, Ok, All, IsSome, IfSome}
use Rattle.roll_contact.specs.Contacts.{is_playing}
use Rattle.roll_contact.specs.Seals.{unsealed}
use Rattle.roll_contact.specs.declared.key.Key.{Key}
use Rattle.roll_frame.specs.declared.refusal.Refusal.{Refusal}
use Rattle.roll_session.specs.Seen.{Seen, Step}
use Rattle.roll_wire.specs.Spelling.{Content, Greets, Leaves, Plays}
use Rattle.roll_peer.specs.Following.{heard_beside}
use Rattle.roll_peer.specs.Peered.{contact_at, Peered}
use Rattle.roll_peer.specs.Receiving.{after_ignored, ignored, opened, sender_of, with_stranger, Receives}
use Rattle.roll_peer.specs.Settings.{number_for}
use Rattle.roll_peer.specs.Turning.{Polls}
use Rattle.roll_peer.specs.Waiting.{Waiting}
use Rattle.roll_peer.specs.declared.event.PeerEvent.{PeerEvent}
use Rattle.roll_peer.specs.declared.event.PeerEvent.TheVariants.{Synchronizing, Synchronized, Running, DisconnectedFromPeer, TimeSync, Interrupted, Resumed, Desync, Mismatch, Dropped, Left, Restarted, Stalled, Refused, Missing, CutOff, Strangers, TwoMarks}
use Rattle.roll_peer.specs.declared.received.Ignored.{Ignored}
use Rattle.roll_peer.specs.declared.received.Received.{Received}

-- ---- what is believed

abbrev pub is_greeting : Content → Bool
is_greeting (Greets hello) = true
is_greeting (Plays t) = false
is_greeting (Leaves why) = false

-- the key of what a machine seals for this opening
abbrev pub key_from : Peered → ℕ → Key
key_from peer m = record {
  number = number_for peer.settings m;
  from = (contact_at peer m).draw;
  to = peer.settings.draw;
}

-- bytes that were sealed by both draws, of which the sender's is believed
pub record IsOfThisOpening (peer : Peered) (bytes : List ℕ) : Type 0 where
  pub playing : is_playing (contact_at peer (sender_of bytes)).stage ≡ true
  pub sealed : IsSome (unsealed (key_from peer (sender_of bytes)) bytes)

-- a play or a bye is heard only if it was sealed for this opening by the one that is believed
abbrev pub NothingElseIsHeard : Type 0
NothingElseIsHeard = (peer : Peered) (bytes : List ℕ) (what : Content)
    → ((i : ℕ) → get_or bytes i 0 < 256)
    → opened peer bytes ≡ Ok what → is_greeting what ≡ false → IsOfThisOpening peer bytes

-- ---- what is told

-- the machine that an event names
abbrev pub machine_in : PeerEvent → Option ℕ
machine_in (Synchronizing machine count total) = Some machine
machine_in (Synchronized machine) = Some machine
machine_in Running = None
machine_in (DisconnectedFromPeer player) = None
machine_in (TimeSync frames_ahead) = None
machine_in (Interrupted machine disconnect_in) = Some machine
machine_in (Resumed machine) = Some machine
machine_in (Desync machine frame) = Some machine
machine_in (Mismatch machine field) = Some machine
machine_in Dropped = None
machine_in (Left machine bye) = Some machine
machine_in (Restarted machine) = Some machine
machine_in (Stalled machine disconnect_in) = Some machine
machine_in (Refused machine) = Some machine
machine_in (Missing machine) = Some machine
machine_in (CutOff over_in) = None
machine_in (Strangers count) = None
machine_in (TwoMarks machine player) = Some machine

-- it names none, or one of so many
abbrev pub IsNamed : ℕ → PeerEvent → Type 0
IsNamed machines event = IfSome (machine_in event) (λ m. nat_lt m machines ≡ true)

abbrev pub AreNamed : ℕ → Waiting → Type 0
AreNamed machines waiting = All (IsNamed machines) waiting.events

-- all events that wait name machines of the match
abbrev pub NamesMachines : Peered → Type 0
NamesMachines peer = AreNamed peer.settings.machines peer.waiting

-- a peer that sits where its settings say
abbrev pub IsSeatedSo : Peered → Type 0
IsSeatedSo peer = peer.member.mesh.seat.machines ≡ peer.settings.machines

-- whatever is heard, refused or polled, or heard by another network, each event that waits names a machine of the match
pub record EventsNameMachines : Type 0 where
  pub heard : (step : Step) (before after : Seen) (old new : Peered) (bytes : List ℕ) (received : Received)
      → IsSeatedSo old → NamesMachines old → ignored old bytes ≡ None
      → Receives step before after old new bytes received
      → AreNamed old.settings.machines new.waiting
  pub refused : (old : Peered) (bytes : List ℕ) (why : Ignored) → IsSeatedSo old
      → NamesMachines old → ignored old bytes ≡ Some why
      → AreNamed old.settings.machines (with_stranger bytes why (after_ignored (sender_of bytes) why old)).waiting
  pub polled : (before after : Seen) (old new : Peered) (refusal : Option Refusal) → NamesMachines old
      → Polls before after old new refusal → AreNamed old.settings.machines new.waiting
  pub heard_beside : (old other : Peered) (machine : ℕ) → IsSeatedSo old → NamesMachines old
      → AreNamed old.settings.machines (heard_beside machine other old).waiting
