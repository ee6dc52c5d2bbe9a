-- All machines of a match, each with its session and the network beside it, and all datagrams that they ever sent: each may come
-- at any time, at any machine, any number of times, or never.
use Rattle.std.specs.Prelude.{◌≡◌, ◌≢◌, ◌⊎◌, ◌<◌, ℕ, ◌+◌, List, [], ◌∷◌, ◌++◌, length, Option, Some, None, Result, Ok, IfSome, slice_get}
use Rattle.roll_contact.specs.Seals.{message_by}
use Rattle.roll_frame.specs.Core.{settled}
use Rattle.roll_frame.specs.Events.{CoreEvent}
use Rattle.roll_member.specs.Beside.{IsOf}
use Rattle.roll_mesh.specs.Machines.{leave}
use Rattle.roll_mesh.specs.Meshes.{stepped}
use Rattle.roll_mesh.specs.Worlds.{Match, seat_of}
use Rattle.roll_session.specs.Answered.{IsPlayed, IsShort}
use Rattle.roll_session.specs.Headline.{words_of}
use Rattle.roll_session.specs.Others.{bare}
use Rattle.roll_session.specs.Seen.{FollowsLog, Seen, Step}
use Rattle.roll_session.specs.declared.event.Reached.{Reached}
use Rattle.roll_wire.specs.declared.datagram.Mark.{Mark}
use Rattle.roll_wire.specs.Spelling.{Fits, Leaves, Plays, Turn}
use Rattle.roll_peer.specs.Digests.{noted}
use Rattle.roll_peer.specs.Events.{popped}
use Rattle.roll_peer.specs.Following.{heard_beside}
use Rattle.roll_peer.specs.Marking.{mark_refusal, voided, IsMarkedAs}
use Rattle.roll_peer.specs.Peered.{BeginsAs, Peered}
use Rattle.roll_peer.specs.Receiving.{meeting, opened, ticking}
use Rattle.roll_peer.specs.Requests.{Beside, HearsBytes}
use Rattle.roll_peer.specs.Sending.{after_send, key_for, text_for, IsSent}
use Rattle.roll_peer.specs.Settings.{seat_of as seat_in}
use Rattle.roll_peer.specs.Turning.{IsPolled, Turns}
use Rattle.roll_peer.specs.declared.received.Ignored.{Ignored}
use Rattle.roll_peer.specs.declared.received.Received.{Received}
use Rattle.roll_peer.specs.declared.refusal.PeerRefusal.{PeerRefusal}
use Rattle.roll_peer.specs.declared.settings.MatchSettings.{MatchSettings}

-- what there is of each machine, once its network was opened, and what was sent, the newest first
pub record PeerWorld : Type 0 where
  pub machines : ℕ → Option Beside
  pub sent : List (List ℕ)

-- no machine's network is open, and nothing was sent
abbrev pub nobody : PeerWorld
nobody = record { machines = λ machine. None; sent = [] }

-- a call that a machine's program makes, with what it is answered: of its session; of a session from which words are held back, which the
-- network sees as if it had heard them; or of the network, as its functions are named
pub data Deed : Type 0 where
  Calls : Deed
  CallsHolding : Deed
  Receives : (bytes : List ℕ) (now : ℕ) → Result Received Ignored → Deed
  Polls : (now : ℕ) → Result Unit PeerRefusal → Deed
  TakesTurn : (now : ℕ) → Result (Option Reached) PeerRefusal → Deed
  Sends : (machine now : ℕ) → Option (List ℕ) → Deed
  SendsNone : (now : ℕ) → Deed
  SaysBye : (machine why : ℕ) → List ℕ → Deed
  Disconnects : (machine : ℕ) → Deed
  NotesSettled : (digest : ℕ) → Deed
  NotesStateAt : (frame digest : ℕ) → Deed
  PutsMark : (player : ℕ) (mark : Mark) (frame : ℕ) → Deed
  VoidsMark : (player : ℕ) → Deed
  HearsToo : (machine : ℕ) (other : Peered) → Deed
  TakesEvent : Deed

abbrev pub sent_if : Option (List ℕ) → List (List ℕ)
sent_if None = []
sent_if (Some bytes) = bytes ∷ []

-- what is sent in it
abbrev pub sent_in : Deed → List (List ℕ)
sent_in (Sends machine now bytes) = sent_if bytes
sent_in (SaysBye machine why bytes) = bytes ∷ []
sent_in deed = []

-- a session went on by its own program's calls: any events, each accepted by the rules or refused, guesses, room that is made; or
-- memory ran out for an event; or another engine of its game, with counts of its own, was put in
abbrev pub IsCalled : Step → (old new : Seen) → Type 0
IsCalled step old new =
    ((events : List CoreEvent) × IsPlayed step (bare old) (bare new) events)
    ⊎ ((event : CoreEvent) × IsShort step old new event)
    ⊎ (new ≡ record old { counts = new.counts })

-- a session goes on: to the network it is the one that it was, with more words
pub record Continues (old new : Seen) : Type 0 where
  -- each player's words begin with those before
  pub words : (p : ℕ) → (more : List ℕ) × (words_of new (p + 1) ≡ words_of old (p + 1) ++ more)
  -- there are as many players as before
  pub players : length new.core.players ≡ length old.core.players
  -- it has the opening that it had
  pub opening : new.opening ≡ old.opening

-- if bytes are heard as a play, a machine of the match sent them: whoever hasn't the key seals nothing
abbrev pub IsGenuine : List (List ℕ) → Peered → List ℕ → Type 0
IsGenuine sent peer bytes = (t : Turn) → opened peer bytes ≡ Ok (Plays t)
    → (place : ℕ) × (slice_get sent place ≡ Some bytes)

-- what a call makes of a machine, where so much was sent before: what its contract says
abbrev pub Does : Step → List (List ℕ) → Deed → (old new : Beside) → Type 0
Does step sent Calls old new = IsCalled step old.session new.session × (new.peer ≡ old.peer)
Does step sent CallsHolding old new = Continues old.session new.session × (new.peer ≡ old.peer)
Does step sent (Receives bytes now said) old new =
    HearsBytes step old new now bytes said
    × IsGenuine sent (meeting old.session (ticking now old.peer)) bytes
Does step sent (Polls now said) old new =
    IsPolled old.session new.session (ticking now old.peer) new.peer said
Does step sent (TakesTurn now said) old new =
    Turns old.session new.session (ticking now old.peer) new.peer said
Does step sent (Sends machine now bytes) old new =
    IsOf old.session old.peer.member
    × IfSome bytes (IsSent old.session (meeting old.session (ticking now old.peer)) machine)
    × (new.peer ≡ after_send (meeting old.session (ticking now old.peer)) machine)
    × (new.session ≡ old.session)
Does step sent (SendsNone now) old new =
    (new.peer ≡ ticking now old.peer) × (new.session ≡ old.session)
Does step sent (SaysBye machine why bytes) old new =
    (bytes ≡ text_for old.peer machine (Leaves why))
    × Fits (message_by (key_for old.peer machine (Leaves why)) old.peer.settings.me (Leaves why))
    × (new ≡ old)
Does step sent (Disconnects machine) old new =
    (new.peer ≡ record old.peer {
      member = record old.peer.member {
        mesh = stepped (λ seat here. leave seat machine here) old.peer.member.mesh;
      };
    }) × (new.session ≡ old.session)
Does step sent (NotesSettled digest) old new =
    IsOf old.session old.peer.member
    × (new.peer ≡ record (meeting old.session old.peer) {
      digests = noted (settled old.session.core) digest old.peer.digests;
    }) × (new.session ≡ old.session)
Does step sent (NotesStateAt frame digest) old new =
    (new.peer ≡ record old.peer { digests = noted frame digest old.peer.digests }) × (new.session ≡ old.session)
Does step sent (PutsMark player mark frame) old new =
    IsOf old.session old.peer.member
    × IsMarkedAs old.session old.peer new.peer player mark frame × (new.session ≡ old.session)
    × (mark_refusal old.peer player mark ≡ None)
Does step sent (VoidsMark player) old new = (new.peer ≡ voided old.peer player) × (new.session ≡ old.session)
Does step sent (HearsToo machine other) old new =
    (new.peer ≡ heard_beside machine other old.peer) × (new.session ≡ old.session)
Does step sent TakesEvent old new =
    (new.peer ≡ record old.peer { waiting = popped old.peer.waiting }) × (new.session ≡ old.session)

-- a machine's network is opened beside its session, which it is once: for a match, or for an epoch of one, in which it regards machines
-- as gone from the first
pub record Opens (match : Match) (old new : PeerWorld) (machine : ℕ) : Type 0 where
  pub session : Seen
  pub settings : MatchSettings
  pub gone : List ℕ
  pub peer : Peered
  pub fresh : old.machines machine ≡ None
  pub begins : BeginsAs session settings gone peer
  pub seat : seat_in settings ≡ seat_of match machine
  pub there : new.machines machine ≡ Some (record { session = session; peer = peer })
  pub sent : new.sent ≡ old.sent

-- a machine whose network is open makes a call; its session is one, so it follows its log
pub record Acts (step : Step) (old new : PeerWorld) (machine : ℕ) : Type 0 where
  pub before : Beside
  pub after : Beside
  pub deed : Deed
  pub was : old.machines machine ≡ Some before
  pub is : new.machines machine ≡ Some after
  pub follows : FollowsLog step before.session
  pub does : Does step old.sent deed before after
  pub sent : new.sent ≡ sent_in deed ++ old.sent

-- a machine of the match is opened, or makes a call, and no other changes. Each machine has a game of its own
pub record IsStep (match : Match) (games : ℕ → Step) (old new : PeerWorld) : Type 0 where
  pub machine : ℕ
  pub inside : machine < match.machines
  pub others : (other : ℕ) → other ≢ machine → new.machines other ≡ old.machines other
  pub step_is : Opens match old new machine ⊎ Acts (games machine) old new machine

-- these worlds come one after another
abbrev pub AreSteps : Match → (ℕ → Step) → PeerWorld → List PeerWorld → PeerWorld → Type 0
AreSteps match games old [] new = new ≡ old
AreSteps match games old (next ∷ more) new =
    IsStep match games old next × AreSteps match games next more new

-- what any calls of any machines come to
abbrev pub IsPlayedTo : Match → (ℕ → Step) → PeerWorld → Type 0
IsPlayedTo match games world = (worlds : List PeerWorld) × AreSteps match games nobody worlds world
