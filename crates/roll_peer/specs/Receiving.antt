-- Bytes are heard.
use Rattle.std.specs.Prelude.{◌≡◌, ◌⊎◌, ℕ, List, length, Bool, true, false, ◌&&◌, ◌==◌, not, nat_le, nat_lt, is_some, Option, Some, None, Result, Ok, Err, if◌then◌else◌, slice_index_or, slice_set}
use Rattle.roll_contact.specs.Clocks.{ticked}
use Rattle.roll_contact.specs.Contacts.{after_hello, after_play, bye_heard, called_gone, is_playing, refused}
use Rattle.roll_contact.specs.Keys.{greeting_key}
use Rattle.roll_contact.specs.Seals.{unsealed}
use Rattle.roll_contact.specs.Terms.{mismatch_of}
use Rattle.roll_contact.specs.declared.contact.Contact.{Contact}
use Rattle.roll_contact.specs.declared.key.Key.{Key}
use Rattle.roll_member.specs.Hearing.{HearsPacket}
use Rattle.roll_member.specs.Beside.{met, IsOf, Membership}
use Rattle.roll_member.specs.declared.member.Taken.{Taken}
use Rattle.roll_mesh.specs.declared.heard.Heard.{Heard}
use Rattle.roll_mesh.specs.declared.heard.Heard.TheVariants.{Dropped as WasDropped, Taken as WasTaken}
use Rattle.roll_mesh.specs.declared.packet.Packet.{Packet}
use Rattle.roll_mesh.specs.Machines.{is_in, leave, shortened}
use Rattle.roll_mesh.specs.Meshes.{is_had, stepped}
use Rattle.roll_session.specs.Seen.{Seen, Step}
use Rattle.roll_wire.specs.declared.datagram.Body.{Body}
use Rattle.roll_wire.specs.declared.datagram.Head.{Head}
use Rattle.roll_mesh.specs.declared.limits.TheConstants.{MACHINE_LIMIT, PLAYER_LIMIT}
use Rattle.roll_wire.specs.declared.datagram.Hello.{Hello}
use Rattle.roll_wire.specs.declared.datagram.Marked.{Marked}
use Rattle.roll_wire.specs.declared.datagram.Settled.{Settled}
use Rattle.roll_wire.specs.declared.fault.WireFault.{WireFault}
use Rattle.roll_wire.specs.Reading.{all_of, unmarked_of}
use Rattle.roll_wire.specs.declared.limits.TheConstants.{DATAGRAM_LIMIT}
use Rattle.roll_wire.specs.Spelling.{content as content_of, Content, Greets, Leaves, Message, Plays, Turn}
use Rattle.roll_peer.specs.Comparisons.{compared}
use Rattle.roll_peer.specs.CutOffs.{over_if}
use Rattle.roll_peer.specs.Disputes.{disputed}
use Rattle.roll_peer.specs.Judging.{are_no_more, is_inside}
use Rattle.roll_peer.specs.Marks.{end_among, kept_with, offered_marks, told_with}
use Rattle.roll_peer.specs.Notices.{after_heard}
use Rattle.roll_peer.specs.Peered.{beside, comparison_at, contact_at, Peered}
use Rattle.roll_peer.specs.Settings.{number_for, opening_of, terms_of}
use Rattle.roll_peer.specs.Strangers.{one_stranger_more}
use Rattle.roll_peer.specs.declared.received.Ignored.{Ignored}
use Rattle.roll_peer.specs.declared.received.Ignored.TheVariants.{NotSealed, NoDatagram, InvalidMachine, OwnMachine, MachineGone, OtherSession, Outside, Overstated}
use Rattle.roll_peer.specs.declared.received.Received.{Received}
use Rattle.roll_peer.specs.declared.received.Received.TheVariants.{Hello as HelloHeard, Play as PlayHeard, Bye as ByeHeard}
use Rattle.roll_peer.specs.declared.receiving.TheConstants.{HEAD, KIND_AT, SENDER_AT}

-- ---- the clock

-- a peer whose program's clock shows this
abbrev pub ticking : ℕ → Peered → Peered
ticking now peer = record peer { clock = ticked now peer.clock }

-- once it has met a session, it knows what that session's own players have given
abbrev pub meeting : Seen → Peered → Peered
meeting s peer = record peer { member = met s peer.member }

-- a session that isn't this match's
abbrev pub IsOther : Seen → Peered → Type 0
IsOther s peer = IsOf s peer.member → ⊥

-- the moment that its own clock shows
abbrev pub moment_of : Peered → ℕ
moment_of peer = peer.clock.moment

-- ---- what bytes hold

abbrev pub byte_at : List ℕ → ℕ → ℕ
byte_at bytes place = slice_index_or bytes place 0

abbrev pub sender_of : List ℕ → ℕ
sender_of bytes = byte_at bytes SENDER_AT

-- what reading gave, or why it gave nothing
abbrev pub read : Result Message WireFault → Result Content Ignored
read (Ok what) = Ok what.content
read (Err fault) = Err (NoDatagram fault)

-- what a text says; where no marks are taken, of one without any
abbrev pub read_text : (takes_marks : Bool) → List ℕ → Result Message WireFault
read_text takes_marks text = if takes_marks then all_of text else unmarked_of text

abbrev pub read_sealed : (takes_marks : Bool) → Option (List ℕ) → Result Content Ignored
read_sealed takes_marks None = Err NotSealed
read_sealed takes_marks (Some text) = read (read_text takes_marks text)

abbrev pub open_by : (takes_marks : Bool) → Option Key → List ℕ → Result Content Ignored
open_by takes_marks None bytes = Err NotSealed
open_by takes_marks (Some key) bytes = read_sealed takes_marks (unsealed key bytes)

-- by what a datagram of a kind is sealed that a machine sent: a hello by the number alone; all else also by the draws of both
-- openings, so there is no such key before the machine's is believed
abbrev pub key_of : Peered → ℕ → ℕ → Option Key
key_of peer m kind =
    if kind == 0 then Some (greeting_key (number_for peer.settings m))
    else (if is_playing (contact_at peer m).stage then Some (record {
      number = number_for peer.settings m;
      from = (contact_at peer m).draw;
      to = peer.settings.draw;
    }) else None)

-- what bytes hold, if their sender sealed them for this opening
unfoldable pub opened : Peered → List ℕ → Result Content Ignored
opened peer bytes = open_by peer.settings.takes_marks (key_of peer (sender_of bytes) (byte_at bytes KIND_AT)) bytes

-- a datagram's body, or why there is none
abbrev pub IsOpened : Result Body Ignored → Result Content Ignored → Type 0
IsOpened (Ok body) what = what ≡ Ok (content_of body)
IsOpened (Err why) what = what ≡ Err why

-- a turn as the mesh hears it, without offers of no words
abbrev pub packet_of : ℕ → Turn → Packet
packet_of sender t =
    shortened (record { sender = sender; view = t.head.view; offers = t.head.offers })

-- ---- what isn't heard

-- why a machine isn't heard at all
abbrev pub deaf_to : Peered → ℕ → Option Ignored
deaf_to peer sender =
    if nat_le peer.member.mesh.seat.machines sender then Some InvalidMachine
    else (if sender == peer.member.mesh.seat.me then Some OwnMachine
    else (if is_in peer.member.mesh.machine.gone sender then Some MachineGone else None))

-- why a play isn't heard that says what it shouldn't
abbrev pub unplayed : Peered → Packet → Option Ignored
unplayed peer packet =
    if not (is_inside peer.member.mesh.seat packet) then Some Outside
    else (if not (are_no_more peer.member.mesh.seat peer.member.mesh.machine.has packet)
    then Some Overstated else None)

-- why a turn isn't heard
abbrev pub overstated : Packet → Option Ignored → Option Ignored
overstated packet (Some why) = Some why
overstated packet None = if is_had packet then None else Some Overstated

abbrev pub unheard : Peered → ℕ → Content → Option Ignored
unheard peer sender (Plays t) =
    overstated (packet_of sender t) (unplayed peer (packet_of sender t))
unheard peer sender (Greets hello) = None
unheard peer sender (Leaves why) = None

abbrev pub unheard_in : Peered → ℕ → Result Content Ignored → Option Ignored
unheard_in peer sender (Err why) = Some why
unheard_in peer sender (Ok what) = unheard peer sender what

-- whether bytes are as many as a datagram has
abbrev pub is_sized : List ℕ → Bool
is_sized bytes = nat_le HEAD (length bytes) && nat_le (length bytes) DATAGRAM_LIMIT

-- why bytes that are aren't heard
unfoldable pub ignored_sized : Peered → List ℕ → Option Ignored
ignored_sized peer bytes =
    if is_some (deaf_to peer (sender_of bytes)) then deaf_to peer (sender_of bytes)
    else unheard_in peer (sender_of bytes) (opened peer bytes)

-- why bytes aren't heard
abbrev pub ignored : Peered → List ℕ → Option Ignored
ignored peer bytes = if is_sized bytes then ignored_sized peer bytes else Some NotSealed

-- whether what was ignored for this was sealed by its sender
abbrev pub is_refusal : Ignored → Bool
is_refusal NotSealed = false
is_refusal (NoDatagram fault) = true
is_refusal InvalidMachine = false
is_refusal OwnMachine = false
is_refusal MachineGone = false
is_refusal OtherSession = false
is_refusal Outside = true
is_refusal Overstated = true

-- a machine is known otherwise, and that is told
abbrev pub knowing_of : ℕ → Contact → Peered → Peered
knowing_of m contact peer = record peer {
  contacts = slice_set peer.contacts m contact;
  waiting = after_heard m (contact_at peer m) contact peer.waiting;
}

-- something that a machine sealed was refused
abbrev pub refused_of : ℕ → Peered → Peered
refused_of m peer = knowing_of m (refused (contact_at peer m)) peer

-- what is ignored changes nothing; but it is counted and told if its sender sealed it
abbrev pub after_ignored : ℕ → Ignored → Peered → Peered
after_ignored sender why peer = if is_refusal why then refused_of sender peer else peer

-- whether bytes greet, as a hello of a machine does, whoever sealed it
abbrev pub greets : List ℕ → Bool
greets bytes = is_sized bytes && (byte_at bytes KIND_AT == 0 && nat_lt (sender_of bytes) MACHINE_LIMIT)

-- whether a hello that was ignored for this is of no other machine of the match: it is sealed by another number, has this machine's
-- place or one that there isn't, or is of another version
abbrev pub is_unknown : Ignored → Bool
is_unknown NotSealed = true
is_unknown (NoDatagram fault) = true
is_unknown InvalidMachine = true
is_unknown OwnMachine = true
is_unknown MachineGone = false
is_unknown OtherSession = false
is_unknown Outside = false
is_unknown Overstated = false

-- a hello that isn't of this match is counted
abbrev pub with_stranger : List ℕ → Ignored → Peered → Peered
with_stranger bytes why peer =
    if greets bytes && is_unknown why
    then record peer { strangers = one_stranger_more peer.strangers } else peer

-- ---- what is heard

-- what is known of a machine whose turn called this one gone, if it did
abbrev pub called_gone_if : Bool → Contact → Contact
called_gone_if calls_gone contact = if calls_gone then called_gone contact else contact

-- and of which words may have been refused
abbrev pub refused_if : Bool → Contact → Contact
refused_if is_refused contact = if is_refused then refused contact else contact

-- what is known of it once that turn was heard
abbrev pub after_words : (is_refused calls_gone : Bool) → Head → ℕ → ℕ → Contact → Contact
after_words is_refused calls_gone head frame now contact =
    refused_if is_refused (called_gone_if calls_gone (after_play head.number head.clocks frame now contact))

-- a machine's settled state is compared with this one's
abbrev pub comparing : ℕ → Option Settled → Peered → Peered
comparing m settled peer = record peer {
  comparisons = slice_set peer.comparisons m (compared peer.digests settled (moment_of peer) (comparison_at peer m));
}

-- a machine is known otherwise, and its settled state is compared
abbrev pub knowing : Turn → ℕ → Contact → Peered → Peered
knowing t m contact peer = comparing m t.head.settled (knowing_of m contact peer)

-- the marks that are known as a turn is heard, with those that it tells of words that it offers
abbrev pub marks_told : Peered → Turn → List (Option Marked)
marks_told peer t =
    told_with peer.member.mesh.machine.has peer.marks (offered_marks t.head.offers t.marks)

-- from which frame on no words are taken as a turn is heard
abbrev pub end_for : Peered → Turn → ℕ
end_for peer t = end_among peer.voids (marks_told peer t) PLAYER_LIMIT

-- the marks that are known once it was heard
abbrev pub marks_after : Peered → Membership → Turn → List (Option Marked)
marks_after old member t = kept_with member.mesh.machine.has old.marks (marks_told old t)

-- whether its sender regards this machine as gone: the match is over here then
abbrev pub is_dropped : Heard → Bool
is_dropped WasDropped = true
is_dropped WasTaken = false

-- once session and mesh have heard a turn, at a frame of the session
abbrev pub after_turn : Peered → Membership → ℕ → ℕ → Turn → Taken → Peered
after_turn old member frame sender t taken =
    let contact = after_words (is_some taken.refusal) (is_dropped taken.heard) t.head frame (moment_of old) (contact_at old sender) in
    let known = knowing t sender contact (record old { member = member; marks = marks_after old member t }) in
    over_if (is_dropped taken.heard) (disputed sender t known)

-- a turn is heard: its words become remote words of the session, as far as it takes them, and of who isn't gone none after one with a
-- mark that isn't void;
-- and what its sender tells is known, of marks those of words that it offers and that are there.
-- If the sender knows another mark than this machine, or regards it as gone, that is told
pub record HearsTurn (step : Step) (before after : Seen) (old new : Peered) (sender : ℕ) (t : Turn)
    (taken : Taken) : Type 0 where
  pub member : HearsPacket step (beside before old) (beside after new) (packet_of sender t) t.words (end_for old t) taken
  pub limits : new.member.limits ≡ old.member.limits
  pub rest : new ≡ after_turn old new.member before.core.frame sender t taken

-- a hello is heard
abbrev pub HearsHello : (old new : Peered) → ℕ → Hello → Type 0
HearsHello old new sender hello =
    new ≡ knowing_of sender (after_hello (opening_of old.settings) (mismatch_of (terms_of old.settings) hello) hello
    (moment_of old) (contact_at old sender)) old

-- a machine is gone from now on, and it is known what its bye said
abbrev pub HearsBye : (old new : Peered) → ℕ → (why : ℕ) → Type 0
HearsBye old new sender why = new ≡ record old {
  member = record old.member {
    mesh = stepped (λ seat machine. leave seat sender machine) old.member.mesh;
  };
  contacts = slice_set old.contacts sender (bye_heard why (moment_of old) (contact_at old sender));
}

-- what was opened is heard, and the session, if it takes words
abbrev pub Hears : Step → (before after : Seen) → (old new : Peered) → ℕ → Content → Received → Type 0
Hears step before after old new sender (Greets hello) (HelloHeard from) =
    (from ≡ sender) × (after ≡ before) × HearsHello old new sender hello
Hears step before after old new sender (Plays t) (PlayHeard from taken) =
    (from ≡ sender) × HearsTurn step before after old new sender t taken
Hears step before after old new sender (Leaves why) (ByeHeard from) =
    (from ≡ sender) × (after ≡ before) × HearsBye old new sender why
Hears step before after old new sender content received = ⊥

-- bytes are heard
pub record Receives (step : Step) (before after : Seen) (old new : Peered) (bytes : List ℕ)
    (received : Received) : Type 0 where
  pub what : Content
  pub is_opened : opened old bytes ≡ Ok what
  pub hears : Hears step before after old new (sender_of bytes) what received

-- why bytes that come for a session aren't heard, and what becomes of it: nothing, if the session is another; else what its sender
-- sealed is counted and told, and a hello that isn't of this match is counted
abbrev pub IsIgnored : Seen → (old new : Peered) → List ℕ → Ignored → Type 0
IsIgnored s old new bytes why =
    (IsOther s old × (why ≡ OtherSession) × (new ≡ old))
    ⊎ (IsOf s old.member × (ignored (meeting s old) bytes ≡ Some why)
    × (new ≡ with_stranger bytes why (after_ignored (sender_of bytes) why (meeting s old))))
