-- What an end knows of another, and how that changes.
use Rattle.std.specs.Prelude.{ℕ, List, slice_index_or, ◌-◌, ◌%◌, ◌/◌, ◌^◌, max, min, ℤ, pos, neg_ℤ, ◌+ℤ◌, ◌-ℤ◌, unsigned_abs, Bool, true, false, not, ◌&&◌, ◌||◌, ◌==◌, nat_le, nat_lt, Option, Some, None, if◌then◌else◌}
use Rattle.std.specs.Int.{int_max, int_min}
use Rattle.std.specs.Option.{option_map_or, option_or}
use Rattle.roll_wire.specs.declared.datagram.Clocks.{Clocks}
use Rattle.roll_wire.specs.declared.datagram.Hello.{Hello}
use Rattle.roll_contact.specs.declared.contact.Contact.{Contact}
use Rattle.roll_contact.specs.declared.contact.Opening.{Opening}
use Rattle.roll_contact.specs.declared.contact.Stage.{Stage}
use Rattle.roll_contact.specs.declared.contact.Stage.TheVariants.{Silent, Greeted, Playing, Mismatched}
use Rattle.roll_contact.specs.declared.contact.TheirClocks.{TheirClocks}
use Rattle.roll_contact.specs.declared.contact.TheConstants.{BEHIND_LIMIT, CLOCKS_EVERY, CLOCKS_IN_PATIENCE, HALF, HELLO_AT, HELLO_EVERY, PATIENCE_PARTS, ROUND_TRIP_LIMIT, UNANSWERED}
use Rattle.roll_contact.specs.declared.terms.Field.{Field}
use Rattle.roll_contact.specs.declared.terms.TheConstants.{CARRIES}
use Rattle.roll_contact.specs.Clocks.{difference, one_more, since}

-- nothing was heard, and nothing was sent
abbrev pub opened_contact : Contact
opened_contact = record {
  stage = Silent;
  draw = 0;
  echo = 0;
  owes_hello = false;
  confirmed = false;
  restarted = 0;
  differs = None;
  patience = 0;
  carries = false;
  heard_at = 0;
  interrupted = false;
  answered = 0;
  answered_at = 0;
  unanswered = 0;
  clocks_at = 0;
  plays_left = 0;
  their_clocks = None;
  behind = pos 0;
  their_behind = pos 0;
  round_trip = None;
  sent = 0;
  received = 0;
  after = 0;
  expected = 0;
  refused = 0;
  dropped = 0;
  bye = 0;
}

-- what is known of a machine
abbrev pub known_of : List Contact → ℕ → Contact
known_of contacts m = slice_index_or contacts m opened_contact

abbrev pub is_playing : Stage → Bool
is_playing Silent = false
is_playing Greeted = false
is_playing Playing = true
is_playing (Mismatched field) = false

-- ---- packets

-- one more was sent
abbrev pub counted : Contact → Contact
counted contact = record contact { sent = one_more contact.sent }

-- one more was heard
abbrev pub heard : ℕ → Contact → Contact
heard now contact = record contact {
  heard_at = now;
  interrupted = false;
  received = one_more contact.received;
  expected = one_more contact.expected;
}

-- one that it sealed was refused
abbrev pub refused : Contact → Contact
refused contact = record contact { refused = one_more contact.refused }

-- a play of it called this machine gone
abbrev pub called_gone : Contact → Contact
called_gone contact = record contact { dropped = one_more contact.dropped }

-- its bye was heard
abbrev pub bye_heard : (why : ℕ) → ℕ → Contact → Contact
bye_heard why now contact = record (heard now contact) { bye = why }

-- ---- hellos

-- the lesser of two times of silence, where 0 is for ever
abbrev pub least_patience : ℕ → ℕ → ℕ
least_patience own theirs =
    if own == 0 then theirs else (if theirs == 0 then own else min own theirs)

-- a hello's draw is believed
abbrev pub believing : Opening → Hello → ℕ → Contact → Contact
believing own hello now contact = record contact {
  stage = Playing;
  draw = hello.draw;
  patience = least_patience own.silent_after hello.patience;
  carries = own.carries && ((hello.abilities % 2) == CARRIES);
  answered = difference now 1;
  answered_at = now;
  unanswered = 0;
}

-- who said this opening's draw means the same match, or another
abbrev pub greeted : Opening → Option Field → Hello → ℕ → Contact → Contact
greeted own None hello now contact = believing own hello now (record contact { differs = None })
greeted own (Some field) hello now contact =
    record contact { differs = Some field; stage = Mismatched field }

-- who was never heard is heard
abbrev pub met : Stage → Stage
met Silent = Greeted
met Greeted = Greeted
met Playing = Playing
met (Mismatched field) = Mismatched field

-- a hello of who isn't played with: only if it says this opening's draw, more than that it came is believed
abbrev pub meeting : Opening → Option Field → Hello → ℕ → Contact → Contact
meeting own mismatch hello now contact =
    let came = record (heard now contact) { echo = hello.draw } in
    if hello.echo == own.draw then greeted own mismatch hello now came
    else record came { stage = met contact.stage }

-- a hello of the opening that is believed
abbrev pub same_opening : Opening → Option Field → Hello → ℕ → Contact → Contact
same_opening own mismatch hello now contact =
    if hello.echo == own.draw then record (heard now contact) { differs = mismatch }
    else heard now contact

-- a hello of another opening than the one that is believed. If it says this opening's draw, it was begun in the place of that one: too
-- late, if that one was heard to play; else it is judged as if no other had come. If it doesn't, it may be an old one, and a hello
-- is owed, unless it was found to be too late before
abbrev pub other_opening : Opening → Option Field → Hello → ℕ → Contact → Contact
other_opening own mismatch hello now contact =
    if hello.echo == own.draw
    then (if contact.confirmed
    then record contact { restarted = if hello.draw == 0 then contact.restarted else hello.draw }
    else greeted own mismatch hello now (heard now contact))
    else record contact {
      owes_hello = contact.owes_hello || not (hello.draw == contact.restarted);
    }

-- after a hello
unfoldable pub after_hello : Opening → Option Field → Hello → ℕ → Contact → Contact
after_hello own mismatch hello now contact =
    if is_playing contact.stage
    then (if hello.draw == contact.draw then same_opening own mismatch hello now contact
    else other_opening own mismatch hello now contact)
    else meeting own mismatch hello now contact

-- ---- clocks

-- whether a moment lies before another, by less than half of all
abbrev pub is_before : ℕ → ℕ → Bool
is_before earlier later = not (earlier == later) && nat_lt (difference later earlier) HALF

-- whether a clock that came back is newer than the newest before, and not from the future
abbrev pub is_fresh : ℕ → ℕ → ℕ → Bool
is_fresh clock newest now =
    not (clock == 0) && (is_before newest clock && not (is_before now clock))

-- a clock came back
abbrev pub told : ℕ → ℕ → Contact → Contact
told clock now contact =
    if is_fresh clock contact.answered now
    then record contact { answered = clock; answered_at = now; unanswered = 0 } else contact

-- how many frames one who is at a frame is behind another, held to the limit on both sides
abbrev pub behind_of : ℕ → ℕ → ℤ
behind_of theirs frame =
    int_max (neg_ℤ BEHIND_LIMIT) (int_min (pos theirs -ℤ pos frame) BEHIND_LIMIT)

-- the frame that is so many after another, held to what a frame can be
abbrev pub frame_after : ℕ → ℤ → ℕ
frame_after frame more =
    unsigned_abs (int_max (pos 0) (int_min (pos frame +ℤ more) (pos (2 ^ 32 - 1))))

-- how long ago the clock was sent that was heard, less for how long that was held
abbrev pub trip_of : Clocks → ℕ → ℕ
trip_of clocks now = difference (difference now clocks.heard_clock) clocks.held

-- the round trip that clocks show: none if no clock was heard, or if it would be too long
abbrev pub measured : Clocks → ℕ → Option ℕ
measured clocks now =
    if not (clocks.heard_clock == 0) && nat_le (trip_of clocks now) ROUND_TRIP_LIMIT
    then Some (trip_of clocks now) else None

-- whether the clocks of a play are later than the last that were heard
abbrev pub are_newer : Option TheirClocks → (number : ℕ) → Bool
are_newer None number = true
are_newer (Some theirs) number = nat_lt theirs.number number

-- after the clocks of a play were heard, by an end at a frame
abbrev pub after_clocks : (number : ℕ) → Clocks → ℕ → ℕ → Contact → Contact
after_clocks number clocks frame now contact = record (told clocks.heard_clock now contact) {
  their_clocks = Some (record {
    number = number;
    frame = clocks.frame;
    clock = clocks.clock;
    heard_at = now;
  });
  behind = behind_of clocks.frame frame;
  their_behind = behind_of clocks.heard_frame clocks.frame;
  round_trip = option_or (measured clocks now) contact.round_trip;
  expected = one_more number;
}

-- with these clocks, if there are any, and they are new
abbrev pub with_clocks : (number : ℕ) → Option Clocks → ℕ → ℕ → Contact → Contact
with_clocks number None frame now contact = contact
with_clocks number (Some clocks) frame now contact =
    if are_newer contact.their_clocks number then after_clocks number clocks frame now contact else contact

-- a play was heard: from the first one on its silence counts
abbrev pub confirming : ℕ → Contact → Contact
confirming now contact =
    if contact.confirmed then contact
    else record contact { confirmed = true; answered_at = now; unanswered = 0 }

-- whether a play is newer than all that were heard
abbrev pub is_newer : Contact → (number : ℕ) → Bool
is_newer contact number = nat_le contact.after number

-- then others are only newer if they come after it
abbrev pub passing : (number : ℕ) → Contact → Contact
passing number contact = record contact {
  after = if is_newer contact number then one_more number else contact.after;
}

-- after a play
unfoldable pub after_play : (number : ℕ) → Option Clocks → ℕ → ℕ → Contact → Contact
after_play number clocks frame now contact =
    with_clocks number clocks frame now (passing number (confirming now (heard now contact)))

-- what an end at a frame tells it. A clock is 0 only if none was heard
abbrev pub clocks_for : Contact → ℕ → ℕ → Clocks
clocks_for contact frame now = record {
  frame = frame;
  heard_frame = frame_after frame contact.behind;
  clock = max now 1;
  heard_clock = option_map_or (λ theirs. theirs.clock) contact.their_clocks 0;
  held = option_map_or (λ theirs. since now theirs.heard_at) contact.their_clocks 0;
}

-- ---- what is sent

-- whether it is time for clocks: so many plays went without, or so great a part has passed of the silence that either end waits for
abbrev pub are_clocks_due : Contact → ℕ → Bool
are_clocks_due contact now =
    (contact.plays_left == 0)
    || (nat_lt 0 contact.patience
    && nat_le (contact.patience / CLOCKS_IN_PATIENCE) (since now contact.clocks_at))

-- for how long no new clock came back
abbrev pub unanswered_for : Contact → ℕ → ℕ
unanswered_for contact now = if is_playing contact.stage then since now contact.answered_at else 0

-- whether the next play has clocks: it is time for them, or for more than a quarter of that silence no new clock came back
abbrev pub wants_clocks : Contact → ℕ → Bool
wants_clocks contact now =
    are_clocks_due contact now
    || (nat_lt 0 contact.patience
    && nat_lt (contact.patience / PATIENCE_PARTS) (unanswered_for contact now))

-- the draw that hellos say back: the one that is believed, or else the one that was heard last
abbrev pub hello_echo : Contact → ℕ
hello_echo contact = if is_playing contact.stage then contact.draw else contact.echo

-- whether a hello goes next: the two don't play yet; or it isn't known whether the other does, every other time; or one is owed
abbrev pub says_hello : Contact → Bool
says_hello contact =
    not (is_playing contact.stage)
    || ((not contact.confirmed && (contact.sent % 2 == 0))
    || (contact.owes_hello && (contact.sent % HELLO_EVERY == HELLO_AT)))

abbrev pub hello_sent : Contact → Contact
hello_sent contact = counted (record contact { owes_hello = false })

-- only clocks that were due count as unanswered
abbrev pub play_sent : ℕ → Contact → Contact
play_sent now contact = counted (
    if are_clocks_due contact now then record contact {
      unanswered = one_more contact.unanswered;
      clocks_at = now;
      plays_left = CLOCKS_EVERY - 1;
    } else record contact { plays_left = contact.plays_left - 1 })

-- ---- silence

-- for how long it wasn't heard at all
abbrev pub silence : Contact → ℕ → ℕ
silence contact now = if is_playing contact.stage then since now contact.heard_at else 0

-- whether no new clock came back for longer than that, though enough clocks were sent since
abbrev pub is_unanswered : Contact → ℕ → ℕ → Bool
is_unanswered contact now silent_after =
    nat_lt 0 silent_after
    && (nat_lt silent_after (unanswered_for contact now) && nat_le UNANSWERED contact.unanswered)

-- whether it is gone: it was heard to play, and nothing is answered any more
abbrev pub is_silent : Contact → ℕ → ℕ → Bool
is_silent contact now silent_after = contact.confirmed && is_unanswered contact now silent_after

-- whether its silence is to be told, and wasn't told yet
abbrev pub is_hushed : Contact → ℕ → ℕ → Bool
is_hushed contact now notify_after =
    nat_lt 0 notify_after
    && (not contact.interrupted && nat_lt notify_after (silence contact now))

abbrev pub hushed : Contact → ℕ → ℕ → Contact
hushed contact now notify_after =
    if is_hushed contact now notify_after then record contact { interrupted = true } else contact

-- ---- two networks of one machine

-- whether both play with the same opening of an end
abbrev pub is_one_opening : Contact → Contact → Bool
is_one_opening contact other =
    is_playing contact.stage && (is_playing other.stage && (contact.draw == other.draw))

-- it was heard when the other network heard it, if that was later: its silence is over
abbrev pub heard_later : Contact → ℕ → Contact → Contact
heard_later other now contact =
    if nat_lt (since now other.heard_at) (since now contact.heard_at)
    then record contact { heard_at = other.heard_at; interrupted = false } else contact

-- a clock came back when one came back to the other network, if that was later
abbrev pub answered_later : Contact → ℕ → Contact → Contact
answered_later other now contact =
    if nat_lt (since now other.answered_at) (since now contact.answered_at)
    then record contact {
      answered = other.answered;
      answered_at = other.answered_at;
      unanswered = other.unanswered;
    } else contact

-- with what another network of the same machine knows of the same opening of an end: both are heard together
abbrev pub heard_too : Contact → ℕ → Contact → Contact
heard_too other now contact =
    if is_one_opening contact other
    then answered_later other now (heard_later other now contact) else contact
