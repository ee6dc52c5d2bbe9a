-- The headline of a host: that of its session, over all events that its requests stood for.
use Rattle.std.specs.Prelude.{List, ◌∷◌, Bool, true, false}
use Rattle.roll_branch.specs.declared.branch.Done.{Done}
use Rattle.roll_session.specs.Answered.{replies_to}
use Rattle.roll_session.specs.Headline.{Headline}
use Rattle.roll_session.specs.Seen.{Seen, Step}
use Rattle.roll_host.specs.Hosted.{Hosted}
use Rattle.roll_host.specs.Requests.{all_events, Exchange, IsDoneTo, IsShortOf}
use Rattle.roll_session.specs.Others.{bare}
use Rattle.roll_host.specs.declared.request.HostReply.{HostReply}
use Rattle.roll_host.specs.declared.request.HostRequest.{HostRequest}

module _ {G S N : Type 0} where
  -- the headline of the session over the events of these exchanges, but for copies and what is reserved
  abbrev pub HeadlineOf : Step → (old new : Seen) → List (Exchange G S N) → Type 0
  HeadlineOf step old new exchanges =
      Headline step (bare old) (bare new) (all_events exchanges)
      (replies_to step old (all_events exchanges))

  -- these requests were done but for those that are left, and the headline holds of their events
  pub record IsHeadlineTo (step : Step) (old new : Hosted (Done G S N))
      (requests left : List (HostRequest G S N)) (first all : List HostReply) : Type 0 where
    pub done : IsDoneTo step old new requests left first all
    pub headline : HeadlineOf step old.session new.session done.exchanges

  -- memory ran out for one of these requests, after those before it were done
  pub record EndsShort (step : Step) (old new : Hosted (Done G S N))
      (requests left : List (HostRequest G S N)) (first all : List HostReply) : Type 0 where
    pub before : Hosted (Done G S N)
    pub request : HostRequest G S N
    pub done : IsHeadlineTo step old before requests (request ∷ left) first all
    pub short : IsShortOf step before new request

  -- the headline of all requests; where memory ran out, of those before the one that it ran out for
  abbrev pub IsHeadline : Bool → Step → (old new : Hosted (Done G S N))
      → (requests left : List (HostRequest G S N)) → (first all : List HostReply) → Type 0
  IsHeadline true step old new requests left first all =
      IsHeadlineTo step old new requests left first all
  IsHeadline false step old new requests left first all =
      EndsShort step old new requests left first all
