-- The headline of a host's session.
use Rattle.std.proofs.Common.{◌≡◌, List, [], ◌∷◌, subst}
use Rattle.roll_branch.specs.declared.branch.Done.{Done}
use Rattle.roll_session.proofs.Headlines.{headline_of, AreAsked}
use Rattle.roll_session.specs.Seen.{FollowsLog, Step}
use Rattle.roll_host.proofs.Standing.{asked-append, done_stands}
use Rattle.roll_host.specs.Headline.{EndsShort, IsHeadlineTo}
use Rattle.roll_host.specs.Hosted.{Hosted}
use Rattle.roll_host.specs.Requests.{all_events, AreExchanges, Exchange, IsDoneTo, IsShortOf}
use Rattle.roll_session.specs.Others.{bare}
use Rattle.roll_host.specs.declared.request.HostReply.{HostReply}
use Rattle.roll_host.specs.declared.request.HostRequest.{HostRequest}

module _ {G S N : Type 0} where
  exchanges_asked : (step : Step) (old new : Hosted (Done G S N)) (all : List (Exchange G S N)) → AreExchanges step old all new → AreAsked (all_events all)
  exchanges_asked step old new [] h = tt
  exchanges_asked step old new (first ∷ more) h =
      asked-append first.events (all_events more) (done_stands step old first.after first.request first.reply first.events h.0).asked (exchanges_asked step first.after new more h.1)

  module _ (step : Step) (old : Hosted (Done G S N)) (l : FollowsLog step old.session) (requests : List (HostRequest G S N)) (first all : List HostReply) where
    pub headline_to : (new : Hosted (Done G S N)) (left rest : List (HostRequest G S N)) → IsDoneTo step old new requests rest first all → rest ≡ left → IsHeadlineTo step old new requests left first all
    headline_to new left rest done same =
        subst (λ (rs : List (HostRequest G S N)). IsHeadlineTo step old new requests rs first all) same (record {
          done = done;
          headline = headline_of step (all_events done.exchanges) (bare old.session) (bare new.session) (record { log = l.log; core = l.core }) (exchanges_asked step old new done.exchanges done.are_exchanges) done.played;
        })

    pub headline_short : (before new : Hosted (Done G S N)) (request : HostRequest G S N) (left rest : List (HostRequest G S N)) → IsDoneTo step old before requests rest first all → rest ≡ request ∷ left → IsShortOf step before new request
        → EndsShort step old new requests left first all
    headline_short before new request left rest done popped short = record { before = before; request = request; done = headline_to before (request ∷ left) rest done popped; short = short }
