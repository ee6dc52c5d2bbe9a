-- What a main loop asks of a session and of the network beside it, and whole lists of that.
use Rattle.std.specs.Prelude.{◌≡◌, ◌⊎◌, ℕ, List, [], ◌∷◌, ◌++◌, map, Result, Ok, Err}
use Rattle.std.specs.List.{flat_map}
use Rattle.roll_frame.specs.Events.{CoreEvent}
use Rattle.roll_member.specs.Beside.{IsOf}
use Rattle.roll_session.specs.Answered.{IsPlayed, IsReplied, IsShort}
use Rattle.roll_session.specs.Calls.{asked, event_of, IsRoll}
use Rattle.roll_session.specs.Others.{bare, AreSaid, Said}
use Rattle.roll_session.specs.Seen.{Seen, Step, plain}
use Rattle.roll_session.specs.declared.event.Call.{Call}
use Rattle.roll_frame.specs.declared.refusal.Refusal.TheVariants.{NoMemory}
use Rattle.roll_frame.specs.declared.reply.Reply.{Reply}
use Rattle.roll_peer.specs.Peered.{Peered}
use Rattle.roll_peer.specs.Receiving.{meeting, ticking, IsIgnored, Receives}
use Rattle.roll_peer.specs.Turning.{IsPolled, Turns}
use Rattle.roll_peer.specs.declared.received.Ignored.{Ignored}
use Rattle.roll_peer.specs.declared.received.Received.{Received}
use Rattle.roll_peer.specs.declared.refusal.PeerRefusal.TheVariants.{Session as SessionRefuses}
use Rattle.roll_peer.specs.declared.request.PeerReply.{PeerReply}
use Rattle.roll_peer.specs.declared.request.PeerReply.TheVariants.{Session as Says, Received as HasReceived, Polled as HasPolled, Turned as HasTurned}
use Rattle.roll_peer.specs.declared.request.PeerRequest.{PeerRequest}
use Rattle.roll_peer.specs.declared.request.PeerRequest.TheVariants.{Session as Asks, Receive, Poll, Turn}

-- a session, and the network of its match
pub record Beside : Type 0 where
  pub session : Seen
  pub peer : Peered

-- these events of others came to a session, and nothing else
pub record Brings (step : Step) (old new : Seen) (events : List CoreEvent) : Type 0 where
  pub said : List Said
  pub are_said : AreSaid step old said new
  pub events_are : events ≡ map (λ s. plain s.entry) said

-- one roll at most, which the rules answer
pub record Replies (step : Step) (old new : Seen) (events : List CoreEvent) : Type 0 where
  pub call : Call
  pub is_roll : IsRoll call
  pub said : Reply
  pub events_are : events ≡ event_of call ∷ []
  pub replied : IsReplied step old new (event_of call) said

abbrev pub RollsBy : Step → (old new : Seen) → List CoreEvent → Type 0
RollsBy step old new events = ((events ≡ []) × (new ≡ old)) ⊎ Replies step old new events

-- a turn's events: those of others, and then its roll
pub record TurnsBy (step : Step) (old new : Seen) (events : List CoreEvent) : Type 0 where
  pub between : Seen
  pub first : List CoreEvent
  pub last : List CoreEvent
  pub events_are : events ≡ first ++ last
  pub brings : Brings step old between first
  pub rolls : RollsBy step between new last

-- memory ran out for a turn: it heard others, and then its roll wasn't made, or was cut short
pub record EndsTurn (step : Step) (old new : Seen) : Type 0 where
  pub between : Seen
  pub first : List CoreEvent
  pub brings : Brings step old between first
  pub short : (new ≡ between) ⊎ ((call : Call) × IsShort step between new (event_of call))

-- bytes are heard, or ignored
abbrev pub HearsBytes : Step → (old new : Beside) → ℕ → List ℕ → Result Received Ignored → Type 0
HearsBytes step old new now bytes (Ok received) =
    IsOf old.session old.peer.member
    × Receives step old.session new.session (meeting old.session (ticking now old.peer)) new.peer bytes received
HearsBytes step old new now bytes (Err why) =
    IsIgnored old.session (ticking now old.peer) new.peer bytes why × (new.session ≡ old.session)

module _ {G S N : Type 0} where
  -- a request was done with this reply, and stood for these events of the session
  abbrev pub IsDoneBy : Step → Beside → Beside → PeerRequest G S N → PeerReply → List CoreEvent → Type 0
  IsDoneBy step old new (Asks request) (Says said) events =
      (events ≡ asked request ∷ []) × (IsReplied step old.session new.session (asked request) said × (new.peer ≡ old.peer))
  IsDoneBy step old new (Receive bytes now) (HasReceived said) events =
      HearsBytes step old new now bytes.items said × Brings step old.session new.session events
  IsDoneBy step old new (Poll now) (HasPolled said) events =
      IsPolled old.session new.session (ticking now old.peer) new.peer said × Brings step old.session new.session events
  IsDoneBy step old new (Turn now) (HasTurned said) events =
      Turns old.session new.session (ticking now old.peer) new.peer said × TurnsBy step old.session new.session events
  IsDoneBy step old new request reply events = ⊥

  pub record IsDone (step : Step) (old new : Beside) (request : PeerRequest G S N) (reply : PeerReply) : Type 0 where
    pub events : List CoreEvent
    pub done : IsDoneBy step old new request reply events

  -- memory ran out for a request: of a turn the network is left as it was by any other refusal of its roll; nothing ends so that only
  -- hears others, since what has no room is asked for again
  abbrev pub IsShortOf : Step → Beside → Beside → PeerRequest G S N → Type 0
  IsShortOf step old new (Asks request) =
      IsShort step old.session new.session (asked request) × (new.peer ≡ old.peer)
  IsShortOf step old new (Turn now) =
      Turns old.session new.session (ticking now old.peer) new.peer (Err (SessionRefuses NoMemory))
      × EndsTurn step old.session new.session
  IsShortOf step old new request = ⊥

-- a request with its reply, the events that it stood for, and what was there after it
pub record Exchange (G S N : Type 0) : Type 0 where
  pub request : PeerRequest G S N
  pub reply : PeerReply
  pub events : List CoreEvent
  pub after : Beside

module _ {G S N : Type 0} where
  -- exchanges one after another
  abbrev pub AreExchanges : Step → Beside → List (Exchange G S N) → Beside → Type 0
  AreExchanges step old [] new = new ≡ old
  AreExchanges step old (first ∷ more) new =
      IsDoneBy step old first.after first.request first.reply first.events × AreExchanges step first.after more new

  abbrev pub all_events : List (Exchange G S N) → List CoreEvent
  all_events exchanges = flat_map (λ exchange. exchange.events) exchanges

  -- these requests were done but for those that are left, and their replies added: the session is that after all their events,
  -- but for copies and what is reserved
  pub record IsDoneTo (step : Step) (old new : Beside) (requests left : List (PeerRequest G S N)) (first all : List PeerReply) : Type 0 where
    pub exchanges : List (Exchange G S N)
    pub split : requests ≡ map (λ exchange. exchange.request) exchanges ++ left
    pub replies : all ≡ first ++ map (λ exchange. exchange.reply) exchanges
    pub are_exchanges : AreExchanges step old exchanges new
    pub played : IsPlayed step (bare old.session) (bare new.session) (all_events exchanges)
