-- What each request of a host stood for: events that are asked for, and the session after them.
use Rattle.std.proofs.Common.{◌≡◌, ℕ, List, [], ◌∷◌, ◌++◌, map, ap, sym, subst, Bool, cond, true, false, inl, inr, Option, None, Some, Result, Ok, Err}
use Rattle.std.specs.Prelude.{◌≢◌}
use Rattle.roll_branch.specs.declared.branch.Done.{Done}
use Rattle.roll_branch.specs.declared.branch.Done.TheVariants.{Grown, Refused as HasNone}
use Rattle.roll_branch.specs.Routed.{Routed}
use Rattle.roll_frame.specs.Events.{CoreEvent}
use Rattle.roll_frame.specs.declared.refusal.Refusal.{Refusal}
use Rattle.roll_frame.specs.declared.refusal.Refusal.TheVariants.{NoMemory}
use Rattle.roll_link.specs.Linked.{Sending}
use Rattle.roll_link.specs.declared.remote.Remote.{Remote}
use Rattle.roll_session.proofs.Headlines.{all_are_asked, AreAsked}
use Rattle.roll_session.proofs.Runs.{played_none}
use Rattle.roll_session.specs.Answered.{IsPlayed}
use Rattle.roll_session.specs.Calls.{asked, grafting}
use Rattle.roll_session.specs.Seen.{Seen, Step}
use Rattle.roll_host.specs.Absorbs.{events_by, events_of_all, is_memory, Fated}
use Rattle.roll_host.specs.Guesses.{Speculates}
use Rattle.roll_host.specs.Heard.{events_of}
use Rattle.roll_host.specs.Hosted.{AddsLink, Hosted, ReservesLog}
use Rattle.roll_host.specs.Pumps.{items_of}
use Rattle.roll_host.specs.Requests.{IsDoneBy}
use Rattle.roll_session.specs.Others.{bare}
use Rattle.roll_host.specs.declared.absorb.Fate.{Fate}
use Rattle.roll_host.specs.declared.absorb.Fate.TheVariants.{Added, Dropped, Unmade}
use Rattle.roll_host.specs.declared.request.HostReply.{HostReply}
use Rattle.roll_host.specs.declared.request.HostReply.TheVariants.{Session as Says, Pumped as HasPumped, Absorbed as HasAbsorbed, Speculated as HasSpeculated, LinkAdded, LinkEnded, LogReserved, Closed}
use Rattle.roll_host.specs.declared.request.HostRequest.{HostRequest}
use Rattle.roll_host.specs.declared.request.HostRequest.TheVariants.{Session as Asks, Pump, Absorb, Speculate, AddLink, EndLink, ReserveLog, Close}
use Rattle.roll_session.proofs.Copies.{played_bare}

pub asked-append : (xs ys : List CoreEvent) → AreAsked xs → AreAsked ys → AreAsked (xs ++ ys)
asked-append [] ys h k = k
asked-append (x ∷ xs) ys h k = (h.0, asked-append xs ys h.1 k)

pub heard_asked : (items : List Remote) → AreAsked (events_of items)
heard_asked [] = tt
heard_asked (item ∷ items) = (tt, heard_asked items)

-- branches are grafted because somebody asks for it
pub grafts_asked : (branches : List Routed) → AreAsked (map grafting branches)
grafts_asked [] = tt
grafts_asked (branch ∷ branches) = (tt, grafts_asked branches)

module _ {G S N : Type 0} where
  fate_asked : (done : Done G S N) (fate : Fate) → AreAsked (events_by done fate)
  fate_asked (Grown branch) (Added count) = (tt, tt)
  fate_asked (Grown branch) (Dropped why) = go (is_memory why)
    where
      go : (b : Bool) → AreAsked (cond b [] (grafting branch ∷ []))
      go true = tt
      go false = (tt, tt)
  fate_asked (Grown branch) Unmade = tt
  fate_asked (HasNone ticket) (Added count) = tt
  fate_asked (HasNone ticket) (Dropped why) = tt
  fate_asked (HasNone ticket) Unmade = tt

  fates_asked : (fates : List (Fated G S N)) → AreAsked (events_of_all fates)
  fates_asked [] = tt
  fates_asked (f ∷ fates) = asked-append (events_by f.done f.fate) (events_of_all fates) (fate_asked f.done f.fate) (fates_asked fates)

-- the events are asked for, and the session is that after them
pub record StandsFor (step : Step) (old new : Seen) (events : List CoreEvent) : Type 0 where
  pub played : IsPlayed step (bare old) (bare new) events
  pub asked : AreAsked events

module _ (step : Step) where
  some_events : (old new : Seen) (events those : List CoreEvent) → events ≡ those → AreAsked those → IsPlayed step old new those → StandsFor step old new events
  some_events old new events those e a p = subst (StandsFor step old new) (sym e) (record { played = played_bare step old new those p; asked = a })

  no_events : (old new : Seen) (events : List CoreEvent) → events ≡ [] → bare old ≡ bare new → StandsFor step old new events
  no_events old new events none same = subst (StandsFor step old new) (sym none) (record { played = subst (λ (s : Seen). IsPlayed step (bare old) s []) same (played_none step (bare old)); asked = tt })

module _ {G S N : Type 0} (step : Step) where
  unchanged : (old new : Hosted (Done G S N)) → new ≡ old → bare old.session ≡ bare new.session
  unchanged old new e = ap (λ (h : Hosted (Done G S N)). bare h.session) (sym e)

  guessed : (old new : Hosted (Done G S N)) (player : ℕ) (words : List ℕ) (until : ℕ) (said : Result (Option ℕ) Refusal) → Speculates step old new player words until said → said ≢ Err NoMemory → bare old.session ≡ bare new.session
  guessed old new player words until (Ok (Some ticket)) h n = ap bare (sym h.made.session)
  guessed old new player words until (Ok None) h n = unchanged old new h.2
  guessed old new player words until (Err why) (inl h) n = unchanged old new h.2
  guessed old new player words until (Err why) (inr (inl h)) n = unchanged old new h.2
  guessed old new player words until (Err why) (inr (inr (inl h))) n = absurd (n (ap Err h.0))
  guessed old new player words until (Err why) (inr (inr (inr (inl h)))) n = ap bare (sym h.1.made.session)
  guessed old new player words until (Err why) (inr (inr (inr (inr h)))) n = ap bare (sym h.1.made.session)

  linked : (old new : Hosted (Done G S N)) (said : Result Sending Refusal) → AddsLink old new said → bare old.session ≡ bare new.session
  linked old new (Ok sender) h = ap (λ (k : Hosted (Done G S N)). bare k.session) (sym h.0)
  linked old new (Err why) h = unchanged old new h.0

  reserved : (old new : Hosted (Done G S N)) (more : ℕ) (said : Result (Unit {0}) Refusal) → ReservesLog old new more said → bare old.session ≡ bare new.session
  reserved old new more (Ok done) h = ap (λ (k : Hosted (Done G S N)). bare k.session) (sym h.0)
  reserved old new more (Err why) h = unchanged old new h.0

  -- whatever it was
  pub done_stands : (old new : Hosted (Done G S N)) (request : HostRequest G S N) (reply : HostReply) (events : List CoreEvent) → IsDoneBy step old new request reply events → StandsFor step old.session new.session events
  done_stands old new (Asks request) (Says said) events h = some_events step old.session new.session events (asked request ∷ []) h.0 (all_are_asked (request ∷ [])) h.1.played
  done_stands old new Pump (HasPumped pumped) events h = some_events step old.session new.session events (events_of (items_of h.0.turns)) h.1 (heard_asked (items_of h.0.turns)) h.0.heard.played
  done_stands old new Absorb (HasAbsorbed absorbed) events h = some_events step old.session new.session events (events_of_all h.0.fates) h.1 (fates_asked h.0.fates) h.0.played
  done_stands old new (Speculate player words until) (HasSpeculated said) events h = no_events step old.session new.session events h.0 (guessed old new player words.items until said h.1 h.2)
  done_stands old new AddLink (LinkAdded said) events h = no_events step old.session new.session events h.0 (linked old new said h.1)
  done_stands old new (EndLink link finished) (LinkEnded count) events h = no_events step old.session new.session events h.0 (ap (λ (k : Hosted (Done G S N)). bare k.session) (sym h.1.new_is))
  done_stands old new (ReserveLog more) (LogReserved said) events h = no_events step old.session new.session events h.0 (reserved old new more said h.1)
  done_stands old new Close Closed events h = no_events step old.session new.session events h.0 (unchanged old new h.1)
  done_stands old new request reply events h = absurd h
