-- No input waits for more turns than it may, whatever is called of a match and of its session.
use Rattle.std.specs.Prelude.{◌≡◌, ◌⊎◌, ◌≤◌, ℕ, List, [], ◌∷◌, Bool, true, false, count_by, is_some, Option, Some, Result, Ok}
use Rattle.std.specs.List.{list_any, Contains}
use Rattle.roll_frame.specs.declared.entry.Entry.{Entry}
use Rattle.roll_relay.specs.Waits.{Waits, WasTold}
use Rattle.roll_relay.specs.declared.fault.HeldFault.{HeldFault}
use Rattle.roll_relay.specs.declared.held.TheConstants.{TURN_LIMIT}
use Rattle.roll_chain.specs.declared.seam_refusal.SeamRefusal.{SeamRefusal}
use Rattle.roll_inputs.specs.declared.remote_word.RemoteWord.{RemoteWord}
use Rattle.roll_peer.specs.declared.refusal.PeerRefusal.{PeerRefusal}
use Rattle.roll_session.specs.Seen.{Seen, Step}
use Rattle.roll_wire.specs.declared.datagram.Mark.{Mark}
use Rattle.roll_match.specs.GoingOut.{GoesOut}
use Rattle.roll_match.specs.Hearing.{Hears}
use Rattle.roll_match.specs.Telling.{Marks}
use Rattle.roll_match.specs.Turning.{Goes, Stays, TellsFirst, Turns}
use Rattle.roll_match.specs.declared.one.Match.{Match}
use Rattle.roll_match.specs.declared.unheard.Unheard.{Unheard}
use Rattle.roll_match.specs.declared.unheard.Unmarked.{Unmarked}

-- a match and its session
pub record Both (S P E L : Type 0) : Type 0 where
  pub session : S
  pub it : Match S P E L

-- a call, with what it is answered: those of a match by which the session may be told something; and any other, of the match or of the
-- session, which does nothing to what waits
pub data Call (L : Type 0) : Type 0 where
  Receives : (bytes : List ℕ) (now : ℕ) → Result Unit Unheard → Call L
  TakesTurn : (now : ℕ) (polled : Result (Result Unit PeerRefusal) HeldFault) (handed : Result ℕ HeldFault) (last : Option L) (why : Option SeamRefusal) → Call L
  GivesNext : Option (ℕ × List ℕ) → Call L
  PutsMark : (player : ℕ) (mark : Mark) → Result ℕ Unmarked → Call L
  HandsOver : (count : ℕ) → Result Unit HeldFault → Call L
  Another : Call L

module _ {L : Type 0} where
  -- a turn in which it went well what is told once it is due
  abbrev pub is_turn : Call L → Bool
  is_turn (TakesTurn now polled (Ok count) last why) = true
  is_turn call = false

  -- an epoch ends in it
  abbrev pub ends : Call L → Bool
  ends (TakesTurn now polled handed last why) = is_some last
  ends call = false

module _ {S P L : Type 0} (E : Type 0) (step past : Step) (seen : S → Seen) (past_seen : P → Seen) (goes : Goes S P L) (stays : Stays S P)
  where
    -- what a call makes of both: what its contract says; in any other call nothing goes out of the session's log
    abbrev pub Makes : Call L → (old new : Both S P E L) → Type 0
    Makes (Receives bytes now said) old new =
        Hears step past_seen past bytes now (seen old.session) (seen new.session) old.it new.it said
        × Waits (seen old.session) (seen new.session) old.it.held new.it.held
    Makes (TakesTurn now polled handed last why) old new = Turns seen goes stays now old.session new.session old.it new.it polled handed last why
    Makes (GivesNext said) old new = GoesOut past_seen (seen old.session) (seen new.session) old.it new.it said
    Makes (PutsMark player mark said) old new = Marks seen player mark old.session new.session old.it new.it said
    Makes (HandsOver count said) old new = TellsFirst seen count old.session new.session old.it new.it said
    Makes Another old new =
        (new.it.held ≡ old.it.held)
        × ((entry : Entry) → Contains (seen old.session).log entry → Contains (seen new.session).log entry)

    abbrev pub AreMade : List (Call L) → (old new : Both S P E L) → Type 0
    AreMade [] old new = new ≡ old
    AreMade (call ∷ more) old new = (next : Both S P E L) × Makes call old next × AreMade more next new

    -- the session of an epoch, once a call is made of it, and what comes then: as it was told all that waited, if the epoch ends in the call
    abbrev pub after_call : (call : Call L) → (old next : Both S P E L) → Makes call old next → (later : Seen) → Seen
    after_call (TakesTurn now polled handed (Some last) why) old next turns later = seen turns.ends.told_all
    after_call call old next makes later = later

    -- the session of the epoch in which these calls begin: as it is after them, or as it was where the epoch ends in them
    abbrev pub session_after : (calls : List (Call L)) → (old new : Both S P E L) → AreMade calls old new → Seen
    session_after [] old new made = seen new.session
    session_after (call ∷ more) old new made = after_call call old made.0 made.1 (session_after more made.0 new made.2)

    -- after as many turns as inputs may wait, or where their epoch ends, their session was told each that waited before the first of these calls
    abbrev pub NoInputWaitsLonger : Type 0
    NoInputWaitsLonger =
        (calls : List (Call L)) (old new : Both S P E L) (made : AreMade calls old new)
        → 1 ≤ old.it.held.turns → old.it.held.turns ≤ TURN_LIMIT
        → (old.it.held.turns ≤ count_by is_turn calls) ⊎ (list_any ends calls ≡ true)
        → (w : RemoteWord) → Contains old.it.held.words.items w → WasTold (session_after calls old new made) w
