-- What C sees of a match and of what a peer tells, and the numbers of its refusals.
use Rattle.std.specs.Prelude.{◌≡◌, ℕ, ◌+◌, Bool, ◌&&◌, ◌||◌, false, not, nat_le, nat_lt, is_some, unwrap_or, if◌then◌else◌, ◌⊎◌, ◌≤◌, ◌<◌, slice_index}
use Rattle.std.specs.List.{list_all, range_with_len}
use Rattle.roll_frame.specs.Codes.{code_of}
use Rattle.roll_contact.specs.declared.terms.Field.{Field}
use Rattle.roll_contact.specs.declared.terms.Field.TheVariants.{Lasting, Machines, Opening, Owners, Settings, Words}
use Rattle.roll_epoch.specs.declared.faults.MarkFault.{MarkFault}
use Rattle.roll_epoch.specs.declared.faults.MarkFault.TheVariants.{Delay, OthersDelay, Threshold, Ticket, UnlikeDelays}
use Rattle.roll_relay.specs.declared.held.TheConstants.{TURN_LIMIT}
use Rattle.roll_member.specs.declared.join.JoinRefusal.{JoinRefusal}
use Rattle.roll_member.specs.declared.join.JoinRefusal.TheVariants.{InvalidSeat, Players, Started}
use Rattle.roll_mesh.specs.Groups.{first_of}
use Rattle.roll_mesh.specs.Machines.{owner_of}
use Rattle.roll_mesh.specs.declared.limits.TheConstants.{INPUT_LIMIT, MACHINE_LIMIT, PLAYER_LIMIT}
use Rattle.roll_mesh.specs.declared.seat.Seat.{Seat}
use Rattle.roll_mesh.specs.declared.refusal.MeshRefusal.{MeshRefusal}
use Rattle.roll_mesh.specs.declared.refusal.MeshRefusal.TheVariants.{CountFull, InvalidMachine as NoMachine, InvalidPlayer as NoPlayer, InvalidSeat as NoSeat, MachineGone as IsGone, Overstated as SaysMore, Uneven as SaysParts, OwnMachine as ItsOwn}
use Rattle.roll_peer.specs.Settings.{seat_of}
use Rattle.roll_peer.specs.declared.event.PeerEvent.{PeerEvent}
use Rattle.roll_peer.specs.declared.event.PeerEvent.TheVariants.{Synchronizing, Synchronized, Running, DisconnectedFromPeer, TimeSync, Interrupted, Resumed, Desync, Mismatch, Dropped, Left, Restarted, Stalled, Refused, Missing, CutOff, Strangers, TwoMarks}
use Rattle.roll_peer.specs.declared.received.Ignored.{Ignored}
use Rattle.roll_peer.specs.declared.received.Ignored.TheVariants.{NotSealed, NoDatagram, InvalidMachine, OwnMachine, MachineGone, OtherSession as IsOther, Outside, Overstated}
use Rattle.roll_peer.specs.declared.refusal.MarkRefusal.{MarkRefusal}
use Rattle.roll_peer.specs.declared.refusal.MarkRefusal.TheVariants.{NotTaken, NotOwn, Marked, NoPlayer as NobodyComes, OtherSession as NotThis}
use Rattle.roll_peer.specs.declared.refusal.OpenRefusal.{OpenRefusal}
use Rattle.roll_peer.specs.declared.refusal.OpenRefusal.TheVariants.{Delays, Join, NoDraw, NoMemory, NoNumber}
use Rattle.roll_peer.specs.declared.refusal.PeerRefusal.{PeerRefusal}
use Rattle.roll_peer.specs.declared.refusal.PeerRefusal.TheVariants.{OtherSession, Session}
use Rattle.roll_peer.specs.declared.settings.MatchSettings.{MatchSettings}
use Rattle.roll_peer.specs.declared.stats.Stats.{Stats}
use Rattle.roll_chain.specs.declared.seam_refusal.SeamRefusal.{SeamRefusal}
use Rattle.roll_chain.specs.declared.seam_refusal.SeamRefusal.TheVariants.{JobsOut, Session as SeamOf, Network as SeamIn}
use Rattle.fazgrond_c.specs.declared.peer_kinds.EventOut.{EventOut}
use Rattle.fazgrond_c.specs.declared.peer_kinds.MatchIn.{MatchIn}
use Rattle.fazgrond_c.specs.declared.peer_kinds.StatsOut.{StatsOut}

-- the match that was given, in which machines say that they carry for each other if that is asked for
pub record AreMatched (given : MatchIn) (asked : Bool) (settings : MatchSettings) : Type 0 where
  pub me : settings.me ≡ given.me
  pub machines : settings.machines ≡ given.machines
  pub owners : settings.owners ≡ given.owners
  pub numbers : settings.numbers ≡ given.numbers
  pub draw : settings.draw ≡ given.draw
  pub digest : settings.digest ≡ given.digest
  pub opening : settings.opening ≡ given.opening
  pub silent_after : settings.silent_after ≡ given.silent_after
  pub notify_after : settings.notify_after ≡ given.notify_after
  pub stalled_after : settings.stalled_after ≡ given.stalled_after
  pub carries : settings.carries ≡ asked
  pub takes_marks : settings.takes_marks ≡ false
  pub words : settings.words ≡ given.words
  pub held : given.held_turns ≤ TURN_LIMIT

-- a number of it has no room in 8 bits, or words would be held back for too many turns
abbrev pub HasNoRoom : MatchIn → Type 0
HasNoRoom given =
    (256 ≤ given.me) ⊎ ((256 ≤ given.machines) ⊎ ((256 ≤ given.words)
    ⊎ ((TURN_LIMIT < given.held_turns) ⊎ ((p : ℕ) × (256 ≤ slice_index given.owners p)))))

-- an event that says nothing but its code
abbrev pub bare : ℕ → EventOut
bare code = record {
  code = code;
  machine = 0;
  player = 0;
  count = 0;
  total = 0;
  frames_ahead = 0;
  disconnect_in = 0;
  frame = 0;
  field = 0;
  bye = 0;
}

abbrev pub field_out : Field → ℕ
field_out Machines = 1
field_out Owners = 2
field_out Settings = 3
field_out Words = 4
field_out Lasting = 5
field_out Opening = 6

abbrev pub event_out : PeerEvent → EventOut
event_out (Synchronizing machine count total) =
    record (bare 1001) { machine = machine; count = count; total = total }
event_out (Synchronized machine) = record (bare 1002) { machine = machine }
event_out Running = bare 1003
event_out (DisconnectedFromPeer player) = record (bare 1004) { player = player }
event_out (TimeSync frames_ahead) = record (bare 1005) { frames_ahead = frames_ahead }
event_out (Interrupted machine disconnect_in) =
    record (bare 1006) { machine = machine; disconnect_in = disconnect_in }
event_out (Resumed machine) = record (bare 1007) { machine = machine }
event_out (Left machine bye) = record (bare 1101) { machine = machine; bye = bye }
event_out (Desync machine frame) = record (bare 1102) { machine = machine; frame = frame }
event_out (Mismatch machine field) =
    record (bare 1103) { machine = machine; field = field_out field }
event_out Dropped = bare 1104
event_out (Restarted machine) = record (bare 1105) { machine = machine }
event_out (Stalled machine disconnect_in) =
    record (bare 1106) { machine = machine; disconnect_in = disconnect_in }
event_out (Refused machine) = record (bare 1107) { machine = machine }
event_out (Missing machine) = record (bare 1108) { machine = machine }
event_out (CutOff over_in) = record (bare 1109) { disconnect_in = over_in }
event_out (Strangers count) = record (bare 1110) { count = count }
event_out (TwoMarks machine player) = record (bare 1111) { machine = machine; player = player }

-- what was counted of a machine; the round trip is 0 if it wasn't measured
abbrev pub stats_out : Stats → StatsOut
stats_out stats = record {
  is_measured = if is_some stats.round_trip then 1 else 0;
  round_trip = unwrap_or stats.round_trip 0;
  sent = stats.sent;
  received = stats.received;
  lost = stats.lost;
  words_queued = stats.words_queued;
  frames_behind = stats.frames_behind;
  their_frames_behind = stats.their_frames_behind;
  refused = stats.refused;
  dropped = stats.dropped;
  restarted = if stats.restarted then 1 else 0;
}

-- ---- the numbers of refusals

abbrev pub code_of_ignored : Ignored → ℕ
code_of_ignored NotSealed = 301
code_of_ignored (NoDatagram fault) = 302
code_of_ignored InvalidMachine = 303
code_of_ignored OwnMachine = 304
code_of_ignored MachineGone = 305
code_of_ignored Overstated = 307
code_of_ignored Outside = 312
code_of_ignored IsOther = 313

abbrev pub code_of_refusal : PeerRefusal → ℕ
code_of_refusal OtherSession = 313
code_of_refusal (Session why) = code_of why

abbrev pub code_of_mesh : MeshRefusal → ℕ
code_of_mesh NoSeat = 303
code_of_mesh NoMachine = 303
code_of_mesh ItsOwn = 304
code_of_mesh IsGone = 305
code_of_mesh NoPlayer = 2
code_of_mesh CountFull = 105
code_of_mesh SaysMore = 307
code_of_mesh SaysParts = 312

-- of who can't take a seat: no such machine, other players than the match's, words of others
abbrev pub code_of_join : JoinRefusal → ℕ
code_of_join InvalidSeat = 303
code_of_join Players = 2
code_of_join Started = 11

abbrev pub code_of_open : OpenRefusal → ℕ
code_of_open (Join why) = code_of_join why
code_of_open NoDraw = 11
code_of_open NoNumber = 326
code_of_open Delays = 323
code_of_open NoMemory = 107

-- whether an input has no words past the last player, or there is no such input
abbrev pub is_within_at : Seat → ℕ → Bool
is_within_at seat p = nat_le seat.machines (owner_of seat p) || nat_le (first_of seat.words p + seat.words) PLAYER_LIMIT

abbrev pub are_within : Seat → Bool
are_within seat = list_all (is_within_at seat) (range_with_len 0 PLAYER_LIMIT)

-- whether there are 2 to 8 machines, this one among them, and 1 to 4 words in an input
abbrev pub is_counted : Seat → Bool
is_counted seat =
    nat_le 2 seat.machines && nat_le seat.machines MACHINE_LIMIT && nat_lt seat.me seat.machines
    && nat_le 1 seat.words && nat_le seat.words INPUT_LIMIT

-- of what is no seat in a match: a number is out of range; else an input has words past the last player; else one has two owners
abbrev pub code_of_seat : Seat → ℕ
code_of_seat seat = if not (is_counted seat) then 303 else (if are_within seat then 324 else 325)

-- of who can't take a seat in this match
abbrev pub code_of_joining : MatchSettings → JoinRefusal → ℕ
code_of_joining settings InvalidSeat = code_of_seat (seat_of settings)
code_of_joining settings Players = code_of_join Players
code_of_joining settings Started = code_of_join Started

-- of a match that isn't opened with these settings
abbrev pub code_of_opening : MatchSettings → OpenRefusal → ℕ
code_of_opening settings (Join why) = code_of_joining settings why
code_of_opening settings NoDraw = code_of_open NoDraw
code_of_opening settings NoNumber = code_of_open NoNumber
code_of_opening settings Delays = code_of_open Delays
code_of_opening settings NoMemory = code_of_open NoMemory

-- of a mark that would be void
abbrev pub code_of_mark_fault : MarkFault → ℕ
code_of_mark_fault Threshold = 327
code_of_mark_fault Delay = 328
code_of_mark_fault OthersDelay = 329
code_of_mark_fault UnlikeDelays = 323
code_of_mark_fault Ticket = 330

-- of who can't mark a word: the match takes no marks, no such player here, it has a mark, nobody comes, another session
abbrev pub code_of_mark : MarkRefusal → ℕ
code_of_mark NotTaken = 321
code_of_mark NotOwn = 2
code_of_mark Marked = 322
code_of_mark NobodyComes = 11
code_of_mark NotThis = 313

-- of a match that doesn't go on: jobs are out, its next session doesn't start, or this one doesn't end, or its next network doesn't open
abbrev pub code_of_seam : SeamRefusal → ℕ
code_of_seam JobsOut = 331
code_of_seam (SeamOf why) = code_of why
code_of_seam (SeamIn why) = code_of_open why
