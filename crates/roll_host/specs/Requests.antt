-- Requests of a host, and whole lists of them.
use Rattle.std.specs.Prelude.{◌≡◌, ◌≢◌, ◌<◌, List, [], ◌∷◌, ◌++◌, length, map, option_map, slice_get, Some, Result, Ok, Err}
use Rattle.std.specs.List.{flat_map}
use Rattle.roll_branch.specs.declared.branch.Done.{Done}
use Rattle.roll_frame.specs.Events.{CoreEvent}
use Rattle.roll_frame.specs.declared.refusal.Refusal.TheVariants.{NoMemory}
use Rattle.roll_link.specs.Rings.{Ring}
use Rattle.roll_session.specs.Answered.{IsPlayed, IsReplied, IsShort}
use Rattle.roll_session.specs.Calls.{asked}
use Rattle.roll_session.specs.Changes.{FitsLog}
use Rattle.roll_session.specs.Others.{bare}
use Rattle.roll_session.specs.Seen.{Step}
use Rattle.roll_host.specs.Absorbs.{events_of_all, IsAbsorbed}
use Rattle.roll_host.specs.Guesses.{Speculates}
use Rattle.roll_host.specs.Heard.{events_of}
use Rattle.roll_host.specs.Hosted.{came_by, with_came, AddsLink, EndsLink, Hosted, ReservesLog}
use Rattle.roll_host.specs.Pumps.{items_of, IsPumped}
use Rattle.roll_host.specs.declared.request.HostReply.{HostReply}
use Rattle.roll_host.specs.declared.request.HostReply.TheVariants.{Session as Says, Pumped as HasPumped, Absorbed as HasAbsorbed, Speculated as HasSpeculated, LinkAdded, LinkEnded, LogReserved, Closed}
use Rattle.roll_host.specs.declared.request.HostRequest.{HostRequest}
use Rattle.roll_host.specs.declared.request.HostRequest.TheVariants.{Session as Asks, Pump, Absorb, Speculate, AddLink, EndLink, ReserveLog, Close}
use Rattle.roll_host.specs.declared.limits.TheConstants.{LINK_LIMIT}

-- the links after a reply
abbrev pub rings_after : List Ring → HostReply → List Ring
rings_after rings (LinkAdded (Ok sender)) = rings ++ sender.ring ∷ []
rings_after rings reply = rings

-- and after what `perform` answers
abbrev pub rings_by : {E : Type 0} → List Ring → Result HostReply E → List Ring
rings_by rings (Ok reply) = rings_after rings reply
rings_by rings (Err e) = rings

module _ {G S N : Type 0} where
  -- where a request ends a link, it's by what is left of that link's sender
  abbrev pub EndsOwn : List Ring → HostRequest G S N → Type 0
  EndsOwn rings (EndLink link finished) = slice_get rings link ≡ Some finished.ring
  EndsOwn rings request = Unit {0}

  -- a request was done with this reply, and stood for these events: a pump for the items that it applied, an absorb for the
  -- branches that it grafted, and all others but the session's for none
  abbrev pub IsDoneBy : Step → Hosted (Done G S N) → Hosted (Done G S N) → HostRequest G S N → HostReply → List CoreEvent → Type 0
  IsDoneBy step old new (Asks request) (Says said) events =
      (events ≡ asked request ∷ []) × IsReplied step old.session new.session (asked request) said × (new ≡ record old { session = new.session })
  IsDoneBy step old new Pump (HasPumped pumped) events =
      (pumps : IsPumped step old.session old.links new.session new.links pumped) × (events ≡ events_of (items_of pumps.turns)) × (new.pool ≡ old.pool)
  IsDoneBy step old new Absorb (HasAbsorbed absorbed) events =
      (absorbs : IsAbsorbed step old.session (came_by old.pool) new.session (came_by new.pool) absorbed) × (events ≡ events_of_all absorbs.fates)
      × (new ≡ record old { session = new.session; pool = option_map (with_came (came_by new.pool)) old.pool })
  IsDoneBy step old new (Speculate player words until) (HasSpeculated said) events =
      (events ≡ []) × Speculates step old new player words.items until said × (said ≢ Err NoMemory)
  IsDoneBy step old new AddLink (LinkAdded said) events = (events ≡ []) × AddsLink old new said
  IsDoneBy step old new (EndLink link finished) (LinkEnded count) events = (events ≡ []) × EndsLink old new link finished count
  IsDoneBy step old new (ReserveLog more) (LogReserved said) events = (events ≡ []) × ReservesLog old new more said
  IsDoneBy step old new Close Closed events = (events ≡ []) × (new ≡ old)
  IsDoneBy step old new request reply events = ⊥

  pub record IsDone (step : Step) (old new : Hosted (Done G S N)) (request : HostRequest G S N) (reply : HostReply) : Type 0 where
    pub events : List CoreEvent
    pub done : IsDoneBy step old new request reply events

  -- memory ran out for a request; a pump never ends so, since it holds the item, nor does an absorb, which drops the branch
  abbrev pub IsShortOf : Step → Hosted (Done G S N) → Hosted (Done G S N) → HostRequest G S N → Type 0
  IsShortOf step old new (Asks request) = IsShort step old.session new.session (asked request) × (new ≡ record old { session = new.session })
  IsShortOf step old new (Speculate player words until) = Speculates step old new player words.items until (Err NoMemory)
  IsShortOf step old new AddLink = (new ≡ old) × (length old.links < LINK_LIMIT)
  IsShortOf step old new (ReserveLog more) = (new ≡ old) × FitsLog old.session more × (old.session.reserved < more)
  IsShortOf step old new request = ⊥

-- a request with its reply, the events that it stood for, and the host after it
pub record Exchange (G S N : Type 0) : Type 0 where
  pub request : HostRequest G S N
  pub reply : HostReply
  pub events : List CoreEvent
  pub after : Hosted (Done G S N)

module _ {G S N : Type 0} where
  -- exchanges one after another
  abbrev pub AreExchanges : Step → Hosted (Done G S N) → List (Exchange G S N) → Hosted (Done G S N) → Type 0
  AreExchanges step old [] new = new ≡ old
  AreExchanges step old (first ∷ more) new = IsDoneBy step old first.after first.request first.reply first.events × AreExchanges step first.after more new

  abbrev pub all_events : List (Exchange G S N) → List CoreEvent
  all_events exchanges = flat_map (λ exchange. exchange.events) exchanges

  -- these requests were done but for those that are left, and their replies added: the session is that after all their
  -- events, but for copies and what is reserved
  pub record IsDoneTo (step : Step) (old new : Hosted (Done G S N)) (requests left : List (HostRequest G S N)) (first all : List HostReply) : Type 0 where
    pub exchanges : List (Exchange G S N)
    pub split : requests ≡ map (λ exchange. exchange.request) exchanges ++ left
    pub replies : all ≡ first ++ map (λ exchange. exchange.reply) exchanges
    pub are_exchanges : AreExchanges step old exchanges new
    pub played : IsPlayed step (bare old.session) (bare new.session) (all_events exchanges)

  -- memory ran out for one of these requests, after those before it were done
  pub record IsEndedEarly (step : Step) (old new : Hosted (Done G S N)) (requests left : List (HostRequest G S N)) (first all : List HostReply) : Type 0 where
    pub before : Hosted (Done G S N)
    pub request : HostRequest G S N
    pub done : IsDoneTo step old before requests (request ∷ left) first all
    pub short : IsShortOf step before new request
