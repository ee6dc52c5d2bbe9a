-- A viewer's line, as each of its ends has it.
use Rattle.std.specs.Prelude.{◌≡◌, ℕ, ◌%◌, ◌^◌, List, length, slice_index_or, Bool, true, false, ◌&&◌, not, ◌==◌, nat_le, nat_lt, count_by, Option, Some, None, option_map, Result, Ok, Err, if◌then◌else◌}
use Rattle.roll_contact.specs.Clocks.{first_clock, ticked}
use Rattle.roll_contact.specs.Contacts.{after_hello as hello_heard, after_play as play_heard, clocks_for, hello_echo, hello_sent, is_playing, is_silent as is_silent_at, opened_contact, play_sent, refused, says_hello, unanswered_for, wants_clocks}
use Rattle.roll_contact.specs.Keys.{greeting_key}
use Rattle.roll_contact.specs.Seals.{message_by, named, said_by, unsealed, IsSealed}
use Rattle.roll_contact.specs.Terms.{hello_of, mismatch_of}
use Rattle.roll_contact.specs.declared.contact.Contact.{Contact}
use Rattle.roll_contact.specs.declared.contact.Opening.{Opening}
use Rattle.roll_contact.specs.declared.key.Key.{Key}
use Rattle.roll_contact.specs.declared.terms.Terms.{Terms}
use Rattle.roll_mesh.specs.declared.limits.TheConstants.{MACHINE_LIMIT}
use Rattle.roll_wire.specs.Reading.{unmarked_of}
use Rattle.roll_wire.specs.Spelling.{Content, Greets, Leaves, Message, Plays}
use Rattle.roll_wire.specs.declared.datagram.Clocks.{Clocks}
use Rattle.roll_wire.specs.declared.datagram.Head.{Head}
use Rattle.roll_wire.specs.declared.datagram.Hello.{Hello}
use Rattle.roll_wire.specs.declared.fault.WireFault.{WireFault}
use Rattle.roll_wire.specs.declared.limits.TheConstants.{DATAGRAM_LIMIT}
use Rattle.roll_viewer.specs.declared.line.Line.{Line}
use Rattle.roll_viewer.specs.declared.line.TheConstants.{HEADER, HELLO, KIND_AT, SENDER_AT}
use Rattle.roll_viewer.specs.declared.refusal.LineFault.{LineFault}
use Rattle.roll_viewer.specs.declared.refusal.LineFault.TheVariants.{Host, Machines, NoDraw}
use Rattle.roll_viewer.specs.declared.refusal.LineRefusal.{LineRefusal}
use Rattle.roll_viewer.specs.declared.refusal.LineRefusal.TheVariants.{Ended, Mismatched, NoDatagram, NoRows, NotSealed, Stranger}
use Rattle.roll_viewer.specs.declared.settings.LineSettings.{LineSettings}

-- ---- what both ends are told

-- what the two ends compare: rows are of words, whosever inputs these are of
abbrev pub terms_of : LineSettings → Terms
terms_of settings = record {
  machines = settings.machines;
  owners = settings.owners;
  digest = settings.digest;
  opening = settings.opening;
  words = 1;
  lasts = false;
}

-- what an end says of itself
abbrev pub opening_of : LineSettings → Opening
opening_of settings = record { draw = settings.draw; silent_after = settings.silent_after; carries = false }

-- how many players machines of the match own
abbrev pub players_of : LineSettings → ℕ
players_of settings = count_by (λ owner. nat_lt owner settings.machines) settings.owners

-- why no end is opened by these
abbrev pub fault_of : LineSettings → Option LineFault
fault_of settings =
    if settings.draw == 0 then Some NoDraw
    else (if not (nat_le 2 settings.machines && nat_le settings.machines MACHINE_LIMIT) then Some Machines
    else (if not (nat_lt settings.host settings.machines) then Some Host else None))

-- ---- moments

-- the moment of a line's clock when the program's own shows this
abbrev pub moment_at : Line → ℕ → ℕ
moment_at line now = (ticked now line.clock).moment

-- what is known of the other end changes at a moment
abbrev pub at_moment : ℕ → (ℕ → Contact → Contact) → Line → Line
at_moment now change line = record line {
  clock = ticked now line.clock;
  contact = change (moment_at line now) line.contact;
}

-- ---- what was heard

-- nothing was heard
abbrev pub opened_line : LineSettings → Line
opened_line settings = record {
  settings = settings;
  contact = opened_contact;
  clock = first_clock (settings.draw % 2 ^ 32);
  ended = false;
}

-- by what the other end seals once its draw is believed
abbrev pub key_of_both : Line → Key
key_of_both line = record {
  number = line.settings.number;
  from = line.contact.draw;
  to = line.settings.draw;
}

-- by what the other end seals a datagram of a kind: hellos before any draw is believed, all else by the draws of both
abbrev pub their_key : Line → ℕ → Option Key
their_key line kind =
    if kind == HELLO then Some (greeting_key line.settings.number)
    else (if is_playing line.contact.stage then Some (key_of_both line) else None)

-- the datagram that was sealed by a key
abbrev pub unsealed_by : Option Key → List ℕ → Option (List ℕ)
unsealed_by None bytes = None
unsealed_by (Some key) bytes = unsealed key bytes

-- as many bytes as a datagram can have
abbrev pub are_enough : List ℕ → Bool
are_enough bytes = nat_le HEADER (length bytes) && nat_le (length bytes) DATAGRAM_LIMIT

abbrev pub or_not_sealed : Option (List ℕ) → Result (List ℕ) LineRefusal
or_not_sealed None = Err NotSealed
or_not_sealed (Some text) = Ok text

-- the datagram that came as bytes, if the other end sealed it, which this sender is
abbrev pub came : Line → ℕ → List ℕ → Result (List ℕ) LineRefusal
came line sender bytes =
    if line.ended then Err Ended
    else (if not (are_enough bytes) then Err NotSealed
    else (if not (slice_index_or bytes SENDER_AT 0 == sender) then Err Stranger
    else or_not_sealed (unsealed_by (their_key line (slice_index_or bytes KIND_AT 0)) bytes)))

abbrev pub read : Result Message WireFault → Result Content LineRefusal
read (Ok what) = Ok what.content
read (Err fault) = Err (NoDatagram fault)

abbrev pub read_sealed : Result (List ℕ) LineRefusal → Result Content LineRefusal
read_sealed (Err why) = Err why
read_sealed (Ok text) = read (unmarked_of text)

-- what bytes say, if the other end sent them
unfoldable pub opened : Line → ℕ → List ℕ → Result Content LineRefusal
opened line sender bytes = read_sealed (came line sender bytes)

-- what a function returned, seen by view, is this
abbrev pub Gives : {X Y : Type 0} → (X → Y) → Result X LineRefusal → Result Y LineRefusal → Type 0
Gives view (Ok x) what = what ≡ Ok (view x)
Gives view (Err why) what = what ≡ Err why

-- bytes that say this are sealed as they have to be: hellos by the key of hellos, and all else by the draws of both ends, of which
-- the other's is believed
abbrev pub IsSealedFor : Line → List ℕ → Content → Type 0
IsSealedFor line bytes (Greets hello) = IsSealed (greeting_key line.settings.number) bytes
IsSealedFor line bytes (Plays t) =
    (is_playing line.contact.stage ≡ true) × IsSealed (key_of_both line) bytes
IsSealedFor line bytes (Leaves why) =
    (is_playing line.contact.stage ≡ true) × IsSealed (key_of_both line) bytes

-- the datagram that was sealed as bytes by the key of its kind
pub record IsUnsealed (line : Line) (bytes text : List ℕ) : Type 0 where
  pub key : Key
  pub is_key : their_key line (slice_index_or bytes KIND_AT 0) ≡ Some key
  pub is_sealed : IsSealed key bytes
  pub text_is : text ≡ named key.number bytes

-- why a hello is answered by a refusal: it says this opening's draw, and means another match
abbrev pub mismatched : Line → Hello → Option LineRefusal
mismatched line hello =
    if hello.echo == line.settings.draw
    then option_map (λ field. Mismatched field) (mismatch_of (terms_of line.settings) hello)
    else None

-- what was heard: a hello, a play by an end that is at a frame, a bye
abbrev pub after_hello : Line → Hello → ℕ → Line
after_hello line hello now =
    at_moment now
    (hello_heard (opening_of line.settings) (mismatch_of (terms_of line.settings) hello) hello)
    line

abbrev pub after_play : Line → Head → (frame now : ℕ) → Line
after_play line head frame now = at_moment now (play_heard head.number head.clocks frame) line

abbrev pub after_bye : Line → Line
after_bye line = record line { ended = true }

-- something that the other end sealed was refused
abbrev pub after_refused : Line → Line
after_refused line = record line { contact = refused line.contact }

-- after a refusal: what the other end sealed is counted, but for rows that others have to come before
abbrev pub after_unread : LineRefusal → Line → Line
after_unread (NoDatagram fault) line = after_refused line
after_unread NoRows line = after_refused line
after_unread why line = line

-- and a hello is heard, also if it means another match
abbrev pub after_refusal : Line → ℕ → LineRefusal → Result Content LineRefusal → Line
after_refusal line now why (Ok (Greets hello)) = after_hello line hello now
after_refusal line now why (Ok (Plays t)) = after_unread why line
after_refusal line now why (Ok (Leaves reason)) = after_unread why line
after_refusal line now why (Err other) = after_unread why line

-- for how long no new clock came back from the other end, if its draw is believed
abbrev pub silence : Line → ℕ → ℕ
silence line now = unanswered_for line.contact (moment_at line now)

-- whether it has been silent for too long
abbrev pub is_silent : Line → ℕ → Bool
is_silent line now =
    is_silent_at line.contact (moment_at line now) line.settings.silent_after

-- ---- what is sent

-- by what this end seals: hellos, and all else once a draw is believed
abbrev pub own_key : Line → Key
own_key line = record {
  number = line.settings.number;
  from = line.settings.draw;
  to = line.contact.draw;
}

abbrev pub key_for : Line → Content → Key
key_for line (Greets hello) = greeting_key line.settings.number
key_for line (Plays t) = own_key line
key_for line (Leaves why) = own_key line

-- what one end says, as a datagram
abbrev pub message_of : Line → ℕ → Content → Message
message_of line sender what = message_by (key_for line what) sender what

-- the bytes by which it says so
unfoldable pub said : Line → ℕ → Content → List ℕ
said line sender what = said_by (key_for line what) sender what

-- which match this end means, and which draw of the other end it says back
abbrev pub greeting : Line → Content
greeting line = Greets (hello_of (terms_of line.settings) (opening_of line.settings) (hello_echo line.contact))

-- the clocks of the next play of an end that is at a frame, if it has some
abbrev pub clocks_at : Line → (frame now : ℕ) → Option Clocks
clocks_at line frame now =
    if wants_clocks line.contact (moment_at line now)
    then Some (record (clocks_for line.contact frame (moment_at line now)) { heard_frame = frame })
    else None

-- a hello was said, or a play
abbrev pub hello_said : Line → ℕ → Line
hello_said line now = at_moment now (λ moment. hello_sent) line

abbrev pub play_said : Line → ℕ → Line
play_said line now = at_moment now play_sent line

-- after a turn of an end, in which one of them was said, unless the line has ended
abbrev pub turn_said : Line → ℕ → Line
turn_said line now =
    if line.ended then line
    else (if says_hello line.contact then hello_said line now else play_said line now)

-- the bytes that say bye, for no reason that is told: none if the other end's draw isn't believed
abbrev pub farewell : Line → (sender : ℕ) → Option (List ℕ)
farewell line sender = if is_playing line.contact.stage then Some (said line sender (Leaves 0)) else None
