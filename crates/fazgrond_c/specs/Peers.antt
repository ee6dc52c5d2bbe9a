-- What a call of a peer through a handle comes to.
use Rattle.std.specs.Prelude.{◌≡◌, ◌≢◌, ◌⊎◌, ℕ, ℤ, pos, List, [], slice_get, not, true, Bool, nat_lt, ◌&&◌, ◌||◌, is_none, length, Option, Some, None, IfNone, IfSome, IsSome, MatchOption, Result, Ok, Err, IfErr, IfOk, OnErr, OnOk, if◌then◌else◌}
use Rattle.std.specs.Option.{option_map}
use Rattle.roll_carry.specs.Carrying.{turned}
use Rattle.roll_contact.specs.Contacts.{is_playing}
use Rattle.roll_frame.specs.Core.{settled}
use Rattle.roll_relay.specs.Heard.{beside, PollsHeld}
use Rattle.roll_relay.specs.Relayed.{relayed_beside, HearsHeldBy, SendsBy}
use Rattle.roll_relay.specs.Told.{as_told, roomier, IsHeldFault}
use Rattle.roll_relay.specs.Waits.{Waits}
use Rattle.roll_relay.specs.declared.fault.HeldFault.{HeldFault}
use Rattle.roll_relay.specs.declared.held.Held.{Held}
use Rattle.roll_member.specs.Beside.{IsOf}
use Rattle.roll_member.specs.Joined.{join_refusal, IsTied}
use Rattle.roll_mesh.specs.Machines.{leave}
use Rattle.roll_mesh.specs.Meshes.{leave_refusal, stepped}
use Rattle.roll_mesh.specs.declared.limits.TheConstants.{MACHINE_LIMIT}
use Rattle.roll_mesh.specs.declared.refusal.MeshRefusal.{MeshRefusal}
use Rattle.roll_peer.specs.Digests.{noted}
use Rattle.roll_peer.specs.Events.{popped}
use Rattle.roll_peer.specs.Peered.{contact_at, IsOpenedAs, IsWhyNot, Peered}
use Rattle.roll_peer.specs.Receiving.{meeting, moment_of, IsOther}
use Rattle.roll_peer.specs.Sending.{is_lost, stats_of}
use Rattle.roll_peer.specs.Settings.{has_numbers, seat_of}
use Rattle.roll_peer.specs.declared.received.Ignored.{Ignored}
use Rattle.roll_peer.specs.declared.refusal.OpenRefusal.{OpenRefusal}
use Rattle.roll_peer.specs.declared.refusal.OtherSession.{OtherSession}
use Rattle.roll_peer.specs.declared.refusal.PeerRefusal.{PeerRefusal}
use Rattle.roll_peer.specs.declared.settings.MatchSettings.{MatchSettings}
use Rattle.roll_relay.specs.Relaying.{opened_beside, SaysBye}
use Rattle.roll_relay.specs.declared.heard.Heard.{Heard}
use Rattle.roll_requests.specs.Made.{Keeps}
use Rattle.roll_session.specs.Gameless.{still}
use Rattle.roll_session.specs.Seen.{Seen}
use Rattle.fazgrond_c.specs.Epochs.{epoch_turned, IsHeardBefore, IsNextIn}
use Rattle.fazgrond_c.specs.Handles.{network_in, session_in, IsNothing, Opens}
use Rattle.fazgrond_c.specs.PeerKinds.{code_of_mesh, code_of_opening, code_of_refusal, event_out, stats_out, AreMatched, HasNoRoom}
use Rattle.fazgrond_c.specs.Waiting.{code_if_told, code_of_fault, IsHeldFor}
use Rattle.fazgrond_c.specs.Written.{code_of_receipt, AreSent, AreWritten}
use Rattle.fazgrond_c.specs.declared.live.Live.{Live}
use Rattle.fazgrond_c.specs.declared.network.Network.{Network}
use Rattle.fazgrond_c.specs.declared.open.Open.{Open}
use Rattle.fazgrond_c.specs.declared.peer_kinds.EventOut.{EventOut}
use Rattle.fazgrond_c.specs.declared.peer_kinds.MatchIn.{MatchIn}
use Rattle.fazgrond_c.specs.declared.peer_kinds.StatsOut.{StatsOut}
use Rattle.fazgrond_c.specs.declared.peer_kinds.TheConstants.{MATCH_SIZE}

-- ---- opening

-- a peer of this match, opened beside a session, that has heard nothing, nothing waits, and it carries nothing yet
pub record IsOpened (given : MatchIn) (carries : Bool) (s : Seen) (network : Network) : Type 0 where
  pub matched : MatchSettings
  pub are_matched : AreMatched given carries matched
  pub accepted : join_refusal s (seat_of matched) ≡ None
  pub drawn : matched.draw ≢ 0
  pub numbered : has_numbers matched ≡ true
  pub opened : IsOpenedAs s matched network.peer
  pub tied : IsTied s network.peer.member.mesh
  pub held : IsHeldFor given.held_turns network.held
  pub carrying : network.relay ≡ opened_beside network.peer
  pub epochs : network.epochs ≡ None

-- there is no such match, or the session can't take its seat in it
pub record IsFaulty (given : MatchIn) (carries : Bool) (s : Seen) (code : ℤ) : Type 0 where
  pub matched : MatchSettings
  pub are_matched : AreMatched given carries matched
  pub fault : OpenRefusal
  pub why : IsWhyNot s matched fault
  pub code_is : code ≡ pos (code_of_opening matched fault)

-- why no peer is opened beside a session: the match is another version's, a number has no room where it belongs, or the numbers
-- are no match for it, or memory ran out
abbrev pub IsWhyClosed : MatchIn → (carries : Bool) → Seen → ℤ → Type 0
IsWhyClosed given carries s code =
    ((code ≡ pos 205) × (given.size ≢ MATCH_SIZE))
    ⊎ (((code ≡ pos 11) × HasNoRoom given) ⊎ (IsFaulty given carries s code ⊎ (code ≡ pos 107)))

-- a peer was opened beside a session in the place of what was open before, or nothing is changed
pub record OpensBeside (given : MatchIn) (carries : Bool) (s : Seen) (old new : Option Open) (code : ℤ)
    : Type 0 where
  pub opens : Opens network_in (IsOpened given carries s) old new code
  pub why : code ≢ pos 0 → IsWhyClosed given carries s code
  pub version : given.size ≢ MATCH_SIZE → code ≡ pos 205

-- the same beside what a handle has open
pub record IsOpenedBy (given : MatchIn) (carries : Bool) (lent old new : Option Open) (code : ℤ) : Type 0 where
  pub alone : session_in lent ≡ None → (code ≡ pos 201) × (new ≡ old)
  pub beside : IfSome (session_in lent) (λ live. OpensBeside given carries live.session.seen old new code)

-- ---- hearing and sending

-- bytes are heard that came straight, or of who carries, or they aren't; to the network the session is one that has heard what waits. Or
-- that can't be told it, and nothing is changed
pub record IsReceived (bytes : List ℕ) (now : ℕ) (old new : Network) (before after : Live) (code : ℤ) : Type 0 where
  pub result : Result (Result Heard Ignored) HeldFault
  pub heard : IfOk result (HearsHeldBy still now (relayed_beside before.session.seen old.held.words.items old.peer old.relay)
      (relayed_beside after.session.seen new.held.words.items new.peer new.relay) bytes)
  pub waits : Waits before.session.seen after.session.seen old.held new.held
  pub ignored : IfOk result (λ said. OnErr said ((new.held ≡ old.held) × (old.held.words.items ≡ [] → after.session ≡ before.session)))
  pub refused : IfErr result (IsHeldFault before.session.seen old.held.words.items)
  pub unchanged : OnErr result ((new.held ≡ old.held) × ((after ≡ before) × ((new.peer ≡ old.peer) × (new.relay ≡ old.relay))))
  pub rest : after ≡ record before { session = after.session }
  pub keeps : Keeps before.session after.session
  pub code_is : code ≡ code_if_told code_of_receipt result

-- in this epoch, or if they aren't sealed for it, in the one before
pub record IsReceivedIn (bytes : List ℕ) (now : ℕ) (old new : Network) (before after : Live) (code : ℤ) : Type 0 where
  pub here : ℤ
  pub heard : Network
  pub received : IsReceived bytes now old heard before after here
  pub epochs : heard.epochs ≡ old.epochs
  pub rest : new ≡ record heard { epochs = new.epochs }
  pub past : ((here ≡ pos 301) × IsHeardBefore bytes now old.epochs new.epochs code)
      ⊎ ((here ≢ pos 301) × ((new.epochs ≡ old.epochs) × (code ≡ here)))

abbrev pub code_unless : {T : Type 0} → (T → ℕ) → Option T → ℤ
code_unless number None = pos 0
code_unless number (Some why) = pos (number why)

abbrev pub code_of_poll : Result Unit PeerRefusal → ℤ
code_of_poll (Ok done) = pos 0
code_of_poll (Err why) = pos (code_of_refusal why)

-- a poll of a session is made, step by step, or there is none; the code says why not, or why a player who is to leave is still there. It
-- is told all that waits before somebody leaves; or it can't be, and nothing is changed
pub record IsPolledBeside (now : ℕ) (old new : Peered) (held later : Held) (before after : Live) (code : ℤ) : Type 0 where
  pub result : Result (Result Unit PeerRefusal) HeldFault
  pub polled : IfOk result (PollsHeld (beside before.session.seen held.words.items old)
      (beside after.session.seen later.words.items new) now)
  pub waits : Waits before.session.seen after.session.seen held later
  pub refused : IfErr result (IsHeldFault before.session.seen held.words.items)
  pub unchanged : OnErr result ((later ≡ held) × ((after ≡ before) × (new ≡ old)))
  pub rest : after ≡ record before { session = after.session }
  pub keeps : Keeps before.session after.session
  pub code_is : code ≡ code_if_told code_of_poll result

-- a turn begins for the epochs of the match, and after it one for what is carried
abbrev pub IsPolledFor : (now : ℕ) → (old new : Network) → (before after : Live) → ℤ → Type 0
IsPolledFor now old new before after code =
    (new.relay ≡ turned (moment_of new.peer) old.relay) × (new.epochs ≡ (epoch_turned old).epochs)
    × IsPolledBeside now (epoch_turned old).peer new.peer (epoch_turned old).held new.held before after code

-- a peer for which a machine is gone
abbrev pub without : ℕ → Peered → Peered
without machine peer = record peer {
  member = record peer.member {
    mesh = stepped (λ seat here. leave seat machine here) peer.member.mesh;
  };
}

-- a machine is gone from now on, or there is no such machine, and nothing is changed
pub record IsPutOut (machine : ℕ) (old new : Peered) (code : ℤ) : Type 0 where
  pub why : Option MeshRefusal
  pub why_is : leave_refusal old.member.mesh machine ≡ why
  pub left : IfNone why (new ≡ without machine old)
  pub unchanged : IsSome why → new ≡ old
  pub code_is : code ≡ code_unless code_of_mesh why

abbrev pub IsPutOutBy : (machine : ℕ) → (old new : Network) → ℤ → Type 0
IsPutOutBy machine old new code =
    IsPutOut machine old.peer new.peer code
    × (new.held ≡ old.held) × (new.relay ≡ old.relay) × (new.epochs ≡ old.epochs)

-- what goes straight to a machine in a turn of a session that has heard the words that wait is written, and counted, and the rest is
-- carried; or there is no room for these words, or they aren't its next ones, and nothing is changed
pub record IsSentTo (machine now : ℕ) (old new : Network × Live) (before wrote : List ℕ) (had size : ℕ) (code : ℤ) : Type 0 where
  pub result : Result (Result (Option (List ℕ)) OtherSession) HeldFault
  pub sent : IfOk result (SendsBy (as_told old.1.session.seen old.0.held.words.items 0) now machine old.0.peer new.0.peer old.0.relay new.0.relay)
  pub written : IfOk result (λ said. AreSent said before wrote had size code)
  pub refused : IfErr result (IsHeldFault old.1.session.seen old.0.held.words.items)
  pub unchanged : IfErr result (λ why. IsNothing (code_of_fault why) old new before wrote had size code)
  pub held : new.0.held ≡ old.0.held
  pub epochs : new.0.epochs ≡ old.0.epochs
  pub room : OnOk result (new.1.session.seen ≡ roomier (length old.0.held.words.items) old.1.session.seen)
  pub untouched : old.0.held.words.items ≡ [] → new.1 ≡ old.1
  pub rest : new.1 ≡ record old.1 { session = new.1.session }
  pub keeps : Keeps old.1.session new.1.session

-- what goes out beside that, of this epoch or of the one before, is written, and to which machine it goes; or there is nothing more
pub record IsSentMore (to : ℕ) (old new : Network) (before after : List ℕ) (had size : ℕ) (code : ℤ) : Type 0 where
  pub bytes : Option (List ℕ)
  pub next : IsNextIn old new (option_map (λ text. (to, text)) bytes)
  pub written : AreWritten bytes before after had size code

-- the bytes by which this machine says to another that it leaves are written, and carried too if the line is broken; there are none
-- for one to which nothing is sent, or that hasn't said this opening's draw
pub record IsFarewell (machine why : ℕ) (old new : Network) (before after : List ℕ) (had size : ℕ)
    (code : ℤ) : Type 0 where
  pub bytes : Option (List ℕ)
  pub said : SaysBye old.peer machine why old.relay new.relay bytes
  pub rest : new ≡ record old { relay = new.relay }
  pub none : is_none bytes
      ≡ (is_lost old.peer machine || not (is_playing (contact_at old.peer machine).stage))
  pub written : AreWritten bytes before after had size code

-- ---- what waits, and what is read

-- the oldest event is told, if one waits
pub record IsTold (old new : Peered) (before after : EventOut) (code : ℤ) : Type 0 where
  pub rest : new ≡ record old { waiting = popped old.waiting }
  pub written : MatchOption (slice_get old.waiting.events 0)
      ((code ≡ pos 203) × (after ≡ before))
      (λ event. (code ≡ pos 0) × (after ≡ event_out event))

abbrev pub code_of_note : Result Unit OtherSession → ℤ
code_of_note (Ok done) = pos 0
code_of_note (Err other) = pos 313

-- the same of a peer of which nothing else is changed, nor what it holds back
abbrev pub IsToldBy : (old new : Network) → (before after : EventOut) → ℤ → Type 0
IsToldBy old new before after code =
    IsTold old.peer new.peer before after code
    × (new.held ≡ old.held) × (new.relay ≡ old.relay) × (new.epochs ≡ old.epochs)

-- the digest of a session's settled state is noted; or the session is another, and nothing is changed
pub record IsNoted (digest : ℕ) (s : Seen) (old new : Peered) (code : ℤ) : Type 0 where
  pub result : Result Unit OtherSession
  pub noted_is : OnOk result (new ≡ record (meeting s old) {
    digests = noted (settled s.core) digest old.digests;
  })
  pub accepted : OnOk result (IsOf s old.member)
  pub other : OnErr result (IsOther s old)
  pub unchanged : OnErr result (new ≡ old)
  pub code_is : code ≡ code_of_note result

-- where words are held back, it is noted for the frame that the session has settled, which is less than the peer knows
abbrev pub IsNotedFor : (digest : ℕ) → Seen → (old new : Network) → ℤ → Type 0
IsNotedFor digest s old new code =
    (new ≡ record old { peer = new.peer })
    × (((old.held.turns ≡ 0) × IsNoted digest s old.peer new.peer code)
    ⊎ ((old.held.turns ≢ 0) × ((code ≡ pos 0) × (new.peer ≡ record old.peer { digests = noted (settled s.core) digest old.peer.digests }))))

-- what a peer counted of a machine of its match
abbrev pub stats_at : ℕ → Peered → Option StatsOut
stats_at machine peer =
    if nat_lt machine peer.member.mesh.seat.machines && nat_lt machine MACHINE_LIMIT
    then Some (stats_out (stats_of peer machine)) else None
