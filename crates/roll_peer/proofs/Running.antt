-- One request after others, and the headline of them.
use Rattle.std.proofs.Common.{◌≡◌, ◌∙◌, ℕ, List, [], ◌∷◌, ◌++◌, map, refl, ap, sym, subst, append-nil, append_assoc, inl, inr, Result, Ok, Err}
use Rattle.std.specs.Prelude.{IfErr, IfOk, OnErr, OnOk}
use Rattle.std.proofs.lemmas.Grind.{flat_map-append}
use Rattle.std.proofs.lemmas.List.{map-append}
use Rattle.roll_frame.specs.Events.{CoreEvent}
use Rattle.roll_session.proofs.Answering.{replied_of, short_of}
use Rattle.roll_session.proofs.Copies.{played_bare}
use Rattle.roll_session.proofs.Headlines.{all_are_asked, headline_of, AreAsked}
use Rattle.roll_session.proofs.Hearing.{played_said, said_asked}
use Rattle.roll_session.proofs.Runs.{played_more, played_none}
use Rattle.roll_session.specs.Answered.{IsAnswered, IsPlayed}
use Rattle.roll_session.specs.Calls.{asked, event_of, IsRoll}
use Rattle.roll_session.specs.Others.{bare, Hears}
use Rattle.roll_session.specs.Seen.{plain, FollowsLog, Seen, Step}
use Rattle.roll_session.specs.declared.event.Call.{Call}
use Rattle.roll_session.specs.declared.event.Call.TheVariants.{Sync, Advance}
use Rattle.roll_member.specs.Beside.{IsOf}
use Rattle.roll_peer.specs.Headline.{EndsShort, IsHeadlineTo}
use Rattle.roll_peer.specs.Peered.{Peered}
use Rattle.roll_peer.specs.Receiving.{meeting, ticking, IsIgnored, Receives}
use Rattle.roll_peer.specs.Requests.{all_events, AreExchanges, Beside, Brings, EndsTurn, Exchange, HearsBytes, IsDone, IsDoneBy, IsDoneTo, IsShortOf, RollsBy, TurnsBy}
use Rattle.roll_peer.specs.Rolling.{RollsOnce, TurnsOnce}
use Rattle.roll_peer.specs.declared.received.Ignored.{Ignored}
use Rattle.roll_peer.specs.declared.received.Received.{Received}
use Rattle.roll_peer.specs.declared.request.PeerReply.{PeerReply}
use Rattle.roll_peer.specs.declared.request.PeerReply.TheVariants.{Session as Says, Received as HasReceived, Polled as HasPolled, Turned as HasTurned}
use Rattle.roll_peer.specs.declared.request.PeerRequest.{PeerRequest}
use Rattle.roll_peer.specs.declared.request.PeerRequest.TheVariants.{Session as Asks, Receive, Poll, Turn}

-- ---- what a call says, as events

pub brought : (step : Step) (old new : Seen) (h : Hears step old new) → Brings step old new (map (λ s. plain s.entry) h.said)
brought step old new h = record { said = h.said; are_said = h.are_said; events_are = refl }

pub heard_bytes : (step : Step) (before after : Seen) (old new : Peered) (now : ℕ) (bytes : List ℕ) (result : Result Received Ignored) → OnOk result (IsOf before old.member) → IfOk result (Receives step before after (meeting before (ticking now old)) new bytes) → IfErr result (IsIgnored before (ticking now old) new bytes) → OnErr result (after ≡ before)
    → HearsBytes step (record { session = before; peer = old }) (record { session = after; peer = new }) now bytes result
heard_bytes step before after old new now bytes (Ok received) own heard ignored same = (own, heard)
heard_bytes step before after old new now bytes (Err why) own heard ignored same = (ignored, same)

module _ (step : Step) where
  rolled_by : (old new : Seen) (is_told : Type 0) → (is_told → ⊥) → RollsOnce step old new is_told → (events : List CoreEvent) × RollsBy step old new events
  rolled_by old new is_told never (inl same) = ([], inl (refl, same))
  rolled_by old new is_told never (inr r) = (
    event_of r.call ∷ [],
    inr (record {
      call = r.call;
      is_roll = r.is_roll;
      said = r.said;
      events_are = refl;
      replied = replied_of step old new (event_of r.call) r.said r.answered (λ e. never (r.short e));
    }),
  )

  pub turned_by : (old new : Seen) (is_told : Type 0) → (is_told → ⊥) → TurnsOnce step old new is_told → (events : List CoreEvent) × TurnsBy step old new events
  turned_by old new is_told never t =
      let first : List CoreEvent = map (λ s. plain s.entry) t.hears.said in
      let rolls = rolled_by t.between new is_told never t.rolls in
      (first ++ rolls.0, record { between = t.between; first = first; last = rolls.0; events_are = refl; brings = brought step old t.between t.hears; rolls = rolls.1 })

  pub ended_turn : (old new : Seen) (is_told : Type 0) → is_told → TurnsOnce step old new is_told → EndsTurn step old new
  ended_turn old new is_told told t =
      record {
        between = t.between;
        first = map (λ s. plain s.entry) t.hears.said;
        brings = brought step old t.between t.hears;
        short =
            elim t.rolls [
              | inl same ↦ inl same
              | inr r ↦ inr (r.call, short_of step t.between new r.call (subst (IsAnswered step t.between new (event_of r.call)) (r.only told) r.answered))
            ];
      }

  -- ---- what a request stood for

  -- the events are asked for, and the session is that after them
  record StandsFor (old new : Seen) (events : List CoreEvent) : Type 0 where
    played : IsPlayed step (bare old) (bare new) events
    are_asked : AreAsked events

  asked-append : (xs ys : List CoreEvent) → AreAsked xs → AreAsked ys → AreAsked (xs ++ ys)
  asked-append [] ys h k = k
  asked-append (x ∷ xs) ys h k = (h.0, asked-append xs ys h.1 k)

  stands_then : (old mid new : Seen) (xs ys : List CoreEvent) → StandsFor old mid xs → StandsFor mid new ys → StandsFor old new (xs ++ ys)
  stands_then old mid new xs ys a b =
      record { played = played_more step (bare old) (bare mid) (bare new) xs ys a.played b.played; are_asked = asked-append xs ys a.are_asked b.are_asked }

  brings_stands : (old new : Seen) (events : List CoreEvent) → Brings step old new events → StandsFor old new events
  brings_stands old new events b =
      subst (StandsFor old new) (sym b.events_are) (record { played = played_said step old new b.said b.are_said; are_asked = said_asked step old new b.said b.are_said })

  roll_asked : (call : Call) → IsRoll call → AreAsked (event_of call ∷ [])
  roll_asked Sync r = (tt, tt)
  roll_asked Advance r = (tt, tt)
  roll_asked call r = absurd r

  rolls_stands : (old new : Seen) (events : List CoreEvent) → RollsBy step old new events → StandsFor old new events
  rolls_stands old new events (inl none) =
      subst (StandsFor old new) (sym none.0) (record { played = subst (λ (s : Seen). IsPlayed step (bare old) (bare s) []) (sym none.1) (played_none step (bare old)); are_asked = tt })
  rolls_stands old new events (inr r) =
      subst (StandsFor old new) (sym r.events_are) (record { played = played_bare step old new (event_of r.call ∷ []) r.replied.played; are_asked = roll_asked r.call r.is_roll })

  turns_stands : (old new : Seen) (events : List CoreEvent) → TurnsBy step old new events → StandsFor old new events
  turns_stands old new events t =
      subst (StandsFor old new) (sym t.events_are) (stands_then old t.between new t.first t.last (brings_stands old t.between t.first t.brings) (rolls_stands t.between new t.last t.rolls))

  module _ {G S N : Type 0} where
    done_stands : (old new : Beside) (request : PeerRequest G S N) (reply : PeerReply) (events : List CoreEvent) → IsDoneBy step old new request reply events → StandsFor old.session new.session events
    done_stands old new (Asks request) (Says said) events h =
        subst (StandsFor old.session new.session) (sym h.0) (record { played = played_bare step old.session new.session (asked request ∷ []) h.1.0.played; are_asked = all_are_asked (request ∷ []) })
    done_stands old new (Receive bytes now) (HasReceived said) events h = brings_stands old.session new.session events h.1
    done_stands old new (Poll now) (HasPolled said) events h = brings_stands old.session new.session events h.1
    done_stands old new (Turn now) (HasTurned said) events h = turns_stands old.session new.session events h.1
    done_stands old new request reply events h = absurd h

    exchanges_asked : (old new : Beside) (all : List (Exchange G S N)) → AreExchanges step old all new → AreAsked (all_events all)
    exchanges_asked old new [] h = tt
    exchanges_asked old new (first ∷ more) h =
        asked-append first.events (all_events more) (done_stands old first.after first.request first.reply first.events h.0).are_asked (exchanges_asked first.after new more h.1)

    exchanges_push : (old new : Beside) (all : List (Exchange G S N)) (one : Exchange G S N) (mid : Beside) → AreExchanges step old all mid → IsDoneBy step mid new one.request one.reply one.events → one.after ≡ new → AreExchanges step old (all ++ one ∷ []) new
    exchanges_push old new [] one mid same h after =
        (subst (λ (s : Beside). IsDoneBy step old s one.request one.reply one.events) (sym after) (subst (λ (s : Beside). IsDoneBy step s new one.request one.reply one.events) same h), sym after)
    exchanges_push old new (first ∷ more) one mid all h after = (all.0, exchanges_push first.after new more one mid all.1 h after)

    module _ (old : Beside) (requests : List (PeerRequest G S N)) (first : List PeerReply) where
      pub done_none : IsDoneTo step old old requests requests first first
      done_none = record { exchanges = []; split = refl; replies = sym (append-nil first); are_exchanges = refl; played = played_none step (bare old.session) }

      pub done_more : (mid new : Beside) (rest left : List (PeerRequest G S N)) (all more : List PeerReply) (request : PeerRequest G S N) (reply : PeerReply) → rest ≡ request ∷ left → more ≡ all ++ reply ∷ []
          → IsDoneTo step old mid requests rest first all → IsDone step mid new request reply → IsDoneTo step old new requests left first more
      done_more mid new rest left all more request reply popped added to one =
          let exchange : Exchange G S N = record { request = request; reply = reply; events = one.events; after = new } in
          let those : List (PeerRequest G S N) = map (λ (e : Exchange G S N). e.request) to.exchanges in
          let said : List PeerReply = map (λ (e : Exchange G S N). e.reply) to.exchanges in
          let events : all_events (to.exchanges ++ exchange ∷ []) ≡ all_events to.exchanges ++ one.events =
          flat_map-append (λ (e : Exchange G S N). e.events) to.exchanges (exchange ∷ []) ∙ ap (λ (es : List CoreEvent). all_events to.exchanges ++ es) (append-nil one.events) in
          record {
            exchanges = to.exchanges ++ exchange ∷ [];
            split =
                to.split ∙ ap (λ (rs : List (PeerRequest G S N)). those ++ rs) popped ∙ sym (append_assoc those (request ∷ []) left)
                ∙ ap (λ (rs : List (PeerRequest G S N)). rs ++ left) (sym (map-append (λ (e : Exchange G S N). e.request) to.exchanges (exchange ∷ [])));
            replies =
                added ∙ ap (λ (rs : List PeerReply). rs ++ reply ∷ []) to.replies ∙ append_assoc first said (reply ∷ [])
                ∙ ap (λ (rs : List PeerReply). first ++ rs) (sym (map-append (λ (e : Exchange G S N). e.reply) to.exchanges (exchange ∷ [])));
            are_exchanges = exchanges_push old new to.exchanges exchange mid to.are_exchanges one.done refl;
            played = subst (IsPlayed step (bare old.session) (bare new.session)) (sym events) (played_more step (bare old.session) (bare mid.session) (bare new.session) (all_events to.exchanges) one.events to.played (done_stands mid new request reply one.events one.done).played);
          }

      -- ---- the headline

      pub headline_to : FollowsLog step old.session → (new : Beside) (left rest : List (PeerRequest G S N)) (all : List PeerReply) → IsDoneTo step old new requests rest first all → rest ≡ left → IsHeadlineTo step old new requests left first all
      headline_to l new left rest all done same =
          subst (λ (rs : List (PeerRequest G S N)). IsHeadlineTo step old new requests rs first all) same (record {
            done = done;
            headline = headline_of step (all_events done.exchanges) (bare old.session) (bare new.session) (record { log = l.log; core = l.core }) (exchanges_asked old new done.exchanges done.are_exchanges) done.played;
          })

      pub headline_short : FollowsLog step old.session → (before new : Beside) (request : PeerRequest G S N) (left rest : List (PeerRequest G S N)) (all : List PeerReply) → IsDoneTo step old before requests rest first all → rest ≡ request ∷ left → IsShortOf step before new request
          → EndsShort step old new requests left first all
      headline_short l before new request left rest all done popped short =
          record { before = before; request = request; done = headline_to l before (request ∷ left) rest all done popped; short = short }
