-- The headline of any list of events.
use Rattle.std.proofs.Common.{◌≡◌, ◌∙◌, List, [], ◌∷◌, ◌++◌, length, map, refl, ap, sym, subst, Bool, cond, true, false, append-nil, drop, Result, Ok, Err}
use Rattle.std.specs.Prelude.{is_ok}
use Rattle.std.specs.List.{list_all}
use Rattle.std.specs.Result.{IsErr}
use Rattle.std.proofs.Math.Seq.{drop-append_seam}
use Rattle.std.proofs.lemmas.Bool.{and_parts, false≢true}
use Rattle.std.proofs.lemmas.List.Elements.{All-cons, All-nil}
use Rattle.roll_frame.specs.Core.{Core}
use Rattle.roll_frame.specs.Events.{CoreEvent, after, is_accepted, log_from, replies_from, reply}
use Rattle.roll_frame.specs.Games.{Game}
use Rattle.roll_frame.specs.declared.entry.Entry.{Entry}
use Rattle.roll_frame.specs.declared.entry.Entry.TheVariants.{Local, Remote, Disconnect, Sync, Advance, Graft, Partial}
use Rattle.roll_frame.specs.declared.reply.Reply.{Reply}
use Rattle.roll_session.specs.Answered.{counts_by, counts_from, replies_to, with_entries, IsPlayed, IsReplied, IsShort}
use Rattle.roll_session.specs.Calls.{asked, entry_of, is_call}
use Rattle.roll_session.specs.Headline.{Headline, IsByTheRules, IsCertified, LosesNothing, RunsFewest, ShowsSerialRun, TakesOnce, Turn}
use Rattle.roll_session.specs.Requests.{all_asked, EndsShort, IsDoneTo}
use Rattle.roll_session.specs.Seen.{FollowsLog, Seen, Step, game_of, plain}
use Rattle.roll_session.specs.declared.event.Call.{Call}
use Rattle.roll_session.specs.declared.event.Call.TheVariants.{Local as LocalCall, Remote as RemoteCall, Disconnect as DisconnectCall, Sync as SyncCall, Advance as AdvanceCall}
use Rattle.roll_session.specs.declared.event.Request.{Request}
use Rattle.roll_session.specs.declared.event.Request.TheVariants.{Call as Makes, Graft as Grafts}
use Rattle.roll_session.proofs.Following.{follows_more}
use Rattle.roll_session.proofs.Runs.{none_added, played_more, played_none, played_not, played_one}
use Rattle.roll_session.proofs.Turns.{turn_is, turn_of, IsAsked, IsTurn}

-- the session after any events
abbrev pub session_after : Step → Seen → List CoreEvent → Seen
session_after step s events =
    with_entries s (log_from s.settings (game_of step s) s.core events) (counts_from s.settings (game_of step s) s.core events s.counts)

-- each of these events is asked for
abbrev pub AreAsked : List CoreEvent → Type 0
AreAsked [] = Unit {0}
AreAsked (event ∷ events) = IsAsked event.entry × AreAsked events

module _ (step : Step) where
  pub played_event : (s : Seen) (event : CoreEvent) → IsPlayed step s (session_after step s (event ∷ [])) (event ∷ [])
  played_event s event = go (is_accepted s.settings (game_of step s) s.core event) refl
    where
      there : (new : Seen) → IsPlayed step s new (event ∷ []) → IsPlayed step s (session_after step s (event ∷ [])) (event ∷ [])
      there new p = subst (λ (n : Seen). IsPlayed step s n (event ∷ [])) p.seen p

      go : (b : Bool) → is_accepted s.settings (game_of step s) s.core event ≡ b → IsPlayed step s (session_after step s (event ∷ [])) (event ∷ [])
      go true e = there (with_entries s (event.entry ∷ []) (counts_by s.core event.entry s.counts)) (played_one step s (with_entries s (event.entry ∷ []) (counts_by s.core event.entry s.counts)) event e refl)
      go false e = there s (played_not step s event e)

  first_then : (s : Seen) (event : CoreEvent) (events : List CoreEvent) → IsPlayed step (session_after step s (event ∷ [])) (session_after step (session_after step s (event ∷ [])) events) events
      → IsPlayed step s (session_after step (session_after step s (event ∷ [])) events) (event ∷ events)
  first_then s event events rest =
      let mid : Seen = session_after step s (event ∷ []) in
      played_more step s mid (session_after step mid events) (event ∷ []) events (played_event s event) rest

  -- whatever the events are
  pub played_any : (s : Seen) (events : List CoreEvent) → IsPlayed step s (session_after step s events) events
  played_any s [] = subst (λ (n : Seen). IsPlayed step s n []) (played_none step s).seen (played_none step s)
  played_any s (event ∷ events) =
      let p = first_then s event events (played_any (session_after step s (event ∷ [])) events) in
      subst (λ (n : Seen). IsPlayed step s n (event ∷ events)) p.seen p

  -- after the first event, the others
  rest_played : (s new : Seen) (event : CoreEvent) (events : List CoreEvent) → IsPlayed step s new (event ∷ events) → IsPlayed step (session_after step s (event ∷ [])) new events
  rest_played s new event events p =
      let mid : Seen = session_after step s (event ∷ []) in
      subst (λ (n : Seen). IsPlayed step mid n events) ((first_then s event events (played_any mid events)).seen ∙ sym p.seen) (played_any mid events)

  -- the session still follows its log
  follows_after : (s : Seen) (event : CoreEvent) → FollowsLog step s → FollowsLog step (session_after step s (event ∷ []))
  follows_after s event f = go (is_accepted s.settings (game_of step s) s.core event) refl
    where
      go : (b : Bool) → is_accepted s.settings (game_of step s) s.core event ≡ b
          → FollowsLog step (with_entries s (cond b (event.entry ∷ []) []) (cond b (counts_by s.core event.entry s.counts) s.counts))
      go true e = follows_more step s f event (counts_by s.core event.entry s.counts) e
      go false e = subst (FollowsLog step) (none_added s) f

  headline_none : (s new : Seen) → new ≡ s → Headline step s new [] []
  headline_none s new e = record {
    turns = [];
    are_turns = e;
    events_are = refl;
    replies_are = refl;
    rules = All-nil (IsByTheRules step);
    shown = All-nil (ShowsSerialRun step);
    fewest = All-nil RunsFewest;
    certificate = All-nil IsCertified;
    inputs = All-nil TakesOnce;
    nothing_lost = All-nil LosesNothing;
  }

  headline_first : (s mid new : Seen) (event : CoreEvent) (said : Reply) (events : List CoreEvent) (replies : List Reply) → IsReplied step s mid event said → IsTurn step s mid event said → Headline step mid new events replies
      → Headline step s new (event ∷ events) (said ∷ replies)
  headline_first s mid new event said events replies r t h =
      let turn : Turn = turn_of step s mid event said in
      record {
        turns = turn ∷ h.turns;
        are_turns = (refl, h.are_turns);
        events_are = ap (λ (es : List CoreEvent). event ∷ es) h.events_are;
        replies_are = ap (λ (rs : List Reply). said ∷ rs) h.replies_are;
        rules = All-cons (IsByTheRules step) turn h.turns r h.rules;
        shown = All-cons (ShowsSerialRun step) turn h.turns t.shown h.shown;
        fewest = All-cons RunsFewest turn h.turns t.fewest h.fewest;
        certificate = All-cons IsCertified turn h.turns t.certificate h.certificate;
        inputs = All-cons TakesOnce turn h.turns t.inputs h.inputs;
        nothing_lost = All-cons LosesNothing turn h.turns t.nothing_lost h.nothing_lost;
      }

  -- the headline holds of any events that are asked for
  pub headline_of : (events : List CoreEvent) (old new : Seen) → FollowsLog step old → AreAsked events → IsPlayed step old new events → Headline step old new events (replies_to step old events)
  headline_of [] old new l asked p = headline_none old new (p.seen ∙ sym (played_none step old).seen)
  headline_of (event ∷ events) old new l asked p =
      let game : Game = game_of step old in
      let mid : Seen = session_after step old (event ∷ []) in
      let said : Reply = reply old.settings game old.core event in
      let played : IsPlayed step old mid (event ∷ []) = played_event old event in
      let replied : IsReplied step old mid event said = record { said_is = refl; played = played } in
      let rest = headline_of events mid new (follows_after old event l) asked.1 (rest_played old new event events p) in
      let core : mid.core ≡ after old.settings game old.core event = played.core in
      headline_first old mid new event said events (replies_from old.settings game (after old.settings game old.core event) events) replied
      (turn_is step old mid event said l asked.0 replied)
      (subst (λ (c : Core). Headline step mid new events (replies_from old.settings game c events)) core rest)

-- calls ask for no roll that is cut short
pub calls_are_asked : (entries : List Entry) → list_all is_call entries ≡ true → AreAsked (map plain entries)
calls_are_asked [] h = tt
calls_are_asked (entry ∷ entries) h = let both = and_parts (is_call entry) (list_all is_call entries) h in (one entry both.0, calls_are_asked entries both.1)
  where
    one : (e : Entry) → is_call e ≡ true → IsAsked e
    one (Local p word) c = tt
    one (Remote p frame word) c = tt
    one (Disconnect p) c = tt
    one Sync c = tt
    one Advance c = tt
    one (Graft ticket route) c = tt
    one (Partial to made) c = false≢true c

-- requests ask for no such roll
pub all_are_asked : {G S N : Type 0} (requests : List (Request G S N)) → AreAsked (all_asked requests)
all_are_asked [] = tt
all_are_asked {G = G} {S = S} {N = N} (request ∷ requests) = (one request, all_are_asked requests)
  where
    called : (call : Call) → IsAsked (entry_of call)
    called (LocalCall p word) = tt
    called (RemoteCall p frame word) = tt
    called (DisconnectCall p) = tt
    called SyncCall = tt
    called AdvanceCall = tt

    one : (r : Request G S N) → IsAsked (asked r).entry
    one (Makes call) = called call
    one (Grafts branch) = tt

module _ {G S N : Type 0} (step : Step) (old new : Seen) (requests left : List (Request G S N)) (first all : List Reply) (l : FollowsLog step old) where
  -- of requests that were all done
  pub headline_done : IsDoneTo step old new requests left first all → left ≡ [] → Headline step old new (all_asked requests) (drop (length first) all)
  headline_done to none =
      let whole : to.done ≡ requests = sym (append-nil to.done) ∙ ap (λ (rs : List (Request G S N)). to.done ++ rs) (sym none) ∙ sym to.split in
      let replies : replies_to step old (all_asked to.done) ≡ drop (length first) all = sym (drop-append_seam first (replies_to step old (all_asked to.done))) ∙ ap (drop (length first)) (sym to.replies) in
      subst (λ (rs : List (Request G S N)). Headline step old new (all_asked rs) (drop (length first) all)) whole
      (subst (Headline step old new (all_asked to.done)) replies (headline_of step (all_asked to.done) old new l (all_are_asked to.done) to.played))

  -- of those done before memory ran out
  pub headline_short : (before : Seen) (request : Request G S N) (rest : List (Request G S N)) → IsDoneTo step old before requests rest first all → rest ≡ request ∷ left → IsShort step before new (asked request)
      → EndsShort step old new requests left (drop (length first) all)
  headline_short before request rest to popped short =
      let replies : replies_to step old (all_asked to.done) ≡ drop (length first) all = sym (drop-append_seam first (replies_to step old (all_asked to.done))) ∙ ap (drop (length first)) (sym to.replies) in
      record {
        before = before;
        done = to.done;
        request = request;
        split = to.split ∙ ap (λ (rs : List (Request G S N)). to.done ++ rs) popped;
        headline = subst (Headline step old before (all_asked to.done)) replies (headline_of step (all_asked to.done) old before l (all_are_asked to.done) to.played);
        short = short;
      }

-- a result that is no Ok
pub not_ok : {A E : Type 0} (result : Result A E) → IsErr result → is_ok result ≡ false
not_ok (Ok x) h = absurd (false≢true h)
not_ok (Err e) h = refl
