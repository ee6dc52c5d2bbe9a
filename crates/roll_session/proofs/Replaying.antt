-- A log's entries, made anew as calls.
use Rattle.std.proofs.Common.{◌≡◌, ◌∙◌, ℕ, zero, suc, List, [], ◌∷◌, ◌++◌, map, take, Bool, cond, true, false, Option, Some, None, refl, ap, sym, subst}
use Rattle.std.specs.Prelude.{◌&&◌, fold, slice_get}
use Rattle.std.specs.List.{list_all}
use Rattle.std.specs.Option.{option_map_or}
use Rattle.std.proofs.lemmas.Bool.{and_parts, false≢true}
use Rattle.std.proofs.lemmas.List.{map-append}
use Rattle.std.proofs.lemmas.List.Folds.{list_all-append}
use Rattle.roll_frame.specs.Core.{Core}
use Rattle.roll_frame.specs.Events.{answer, applied, is_accepted, is_repeat, log_from, replay}
use Rattle.roll_frame.specs.Games.{Game, Value}
use Rattle.roll_frame.specs.declared.entry.Entry.{Entry}
use Rattle.roll_frame.specs.declared.entry.Entry.TheVariants.{Local, Remote, Disconnect, Sync, Advance, Graft, Partial}
use Rattle.roll_frame.specs.declared.refusal.Refusal.{Refusal}
use Rattle.roll_frame.specs.declared.refusal.Refusal.TheVariants.{InvalidRequest}
use Rattle.roll_frame.specs.declared.reply.Reply.{Reply}
use Rattle.roll_frame.specs.declared.reply.Reply.TheVariants.{Refused, Repeated}
use Rattle.roll_frame.specs.declared.settings.Settings.{Settings}
use Rattle.roll_laws.proofs.Appended.{log_from-append}
use Rattle.roll_laws.proofs.Entries.{entries_were_accepted}
use Rattle.roll_session.specs.Answered.{IsPlayed, IsReplied}
use Rattle.roll_session.specs.Calls.{entry_of, event_of, is_call}
use Rattle.roll_session.specs.Replaying.{AreLogged, IsReplayed, IsStopped, IsWantOfMemory, Stops}
use Rattle.roll_session.specs.Seen.{FollowsLog, Step, Seen, game_of, plain, refusal_of}
use Rattle.roll_session.specs.declared.event.Call.{Call}
use Rattle.roll_session.specs.declared.event.Call.TheVariants.{Local as LocalCall, Remote as RemoteCall, Disconnect as DisconnectCall, Sync as SyncCall, Advance as AdvanceCall}
use Rattle.roll_session.specs.declared.event.ReplayFault.{ReplayFault}
use Rattle.roll_session.specs.declared.event.ReplayFault.TheVariants.{NotACall, Repeated as RepeatedAt, Refused as RefusedAt, NoMemory}
use Rattle.roll_session.proofs.Following.{replay-append}
use Rattle.roll_session.proofs.Runs.{none_added, played_more, played_none}

pub replayed_none : (step : Step) (s : Seen) → IsReplayed step s s []
replayed_none step s = record { played = played_none step s; all = refl; calls = refl }

pub replayed_more : (step : Step) (old mid new : Seen) (entries more : List Entry) → IsReplayed step old mid entries → IsReplayed step mid new more → IsReplayed step old new (entries ++ more)
replayed_more step old mid new entries more a b =
    let settings : mid.settings ≡ old.settings = ap (λ (s : Seen). s.settings) a.played.seen in
    let opening : mid.opening ≡ old.opening = ap (λ (s : Seen). s.opening) a.played.seen in
    let events : map plain (entries ++ more) ≡ map plain entries ++ map plain more = map-append plain entries more in
    let rest : log_from mid.settings (game_of step mid) mid.core (map plain more) ≡ more = b.all in
    record {
      played = subst (IsPlayed step old new) (sym events) (played_more step old mid new (map plain entries) (map plain more) a.played b.played);
      all = ap (log_from old.settings (game_of step old) old.core) events ∙ log_from-append old.settings (game_of step old) old.core (map plain entries) (map plain more)
          ∙ (λ i. a.all i ++ (rw (a.played.core, settings, opening) at rest) i);
      calls = list_all-append is_call entries more ∙ (λ i. a.calls i && b.calls i);
    }

-- a call gives no refusal, and nothing that was given before
plain_answer : (core : Core) (call : Call) (why : Refusal) → (answer core (entry_of call) ≡ Repeated → ⊥) × (answer core (entry_of call) ≡ Refused why → ⊥)
plain_answer core (LocalCall p word) why = (λ e. cc e, λ e. cc e)
plain_answer core (RemoteCall p f word) why = (λ e. cc e, λ e. cc e)
plain_answer core (DisconnectCall p) why = (λ e. cc e, λ e. cc e)
plain_answer core SyncCall why = (λ e. cc e, λ e. cc e)
plain_answer core AdvanceCall why = (λ e. cc e, λ e. cc e)

pub entry_calls : (call : Call) → is_call (entry_of call) ≡ true
entry_calls (LocalCall p word) = refl
entry_calls (RemoteCall p f word) = refl
entry_calls (DisconnectCall p) = refl
entry_calls SyncCall = refl
entry_calls AdvanceCall = refl

module _ (step : Step) (old new : Seen) (call : Call) where
  said_by : Bool → Option Refusal → Reply
  said_by again test = cond again Repeated (option_map_or Refused test (answer old.core (entry_of call)))

  same_where_not : IsPlayed step old new (event_of call ∷ []) → is_accepted old.settings (game_of step old) old.core (event_of call) ≡ false → new ≡ old
  same_where_not p e = (rw e at p.seen) ∙ sym (none_added old)

  -- what a reply tells of the call
  pub was_repeated : IsReplied step old new (event_of call) Repeated → (is_repeat old.core (entry_of call) ≡ true) × (new ≡ old)
  was_repeated r = go (is_repeat old.core (entry_of call)) (refusal_of step old (entry_of call)) refl refl r.said_is
    where
      go : (b : Bool) (o : Option Refusal) → is_repeat old.core (entry_of call) ≡ b → refusal_of step old (entry_of call) ≡ o → Repeated ≡ cond b Repeated (option_map_or Refused o (answer old.core (entry_of call))) → (is_repeat old.core (entry_of call) ≡ true) × (new ≡ old)
      go true o e f h = (e, same_where_not r.played (rw e refl))
      go false None e f h = absurd ((plain_answer old.core call InvalidRequest).0 (sym h))
      go false (Some why) e f h = absurd (cc h)

  pub was_refused : (why : Refusal) → IsReplied step old new (event_of call) (Refused why) → (is_repeat old.core (entry_of call) ≡ false) × (refusal_of step old (entry_of call) ≡ Some why) × (new ≡ old)
  was_refused why r = go (is_repeat old.core (entry_of call)) (refusal_of step old (entry_of call)) refl refl r.said_is
    where
      go : (b : Bool) (o : Option Refusal) → is_repeat old.core (entry_of call) ≡ b → refusal_of step old (entry_of call) ≡ o → Refused why ≡ cond b Repeated (option_map_or Refused o (answer old.core (entry_of call)))
          → (is_repeat old.core (entry_of call) ≡ false) × (refusal_of step old (entry_of call) ≡ Some why) × (new ≡ old)
      go true o e f h = absurd (cc h)
      go false None e f h = absurd ((plain_answer old.core call why).1 (sym h))
      go false (Some other) e f h = let same : why ≡ other = cc h in (e, f ∙ ap Some (sym same), same_where_not r.played (rw (e, f) refl))

  pub was_made : (said : Reply) → IsReplied step old new (event_of call) said → (said ≡ Repeated → ⊥) → ((why : Refusal) → said ≡ Refused why → ⊥) → IsReplayed step old new (entry_of call ∷ [])
  was_made said r never none = record { played = r.played; all = go (is_repeat old.core (entry_of call)) (refusal_of step old (entry_of call)) refl refl r.said_is; calls = rw (entry_calls call) refl }
    where
      go : (b : Bool) (o : Option Refusal) → is_repeat old.core (entry_of call) ≡ b → refusal_of step old (entry_of call) ≡ o → said ≡ cond b Repeated (option_map_or Refused o (answer old.core (entry_of call)))
          → log_from old.settings (game_of step old) old.core (event_of call ∷ []) ≡ entry_of call ∷ []
      go true o e f h = absurd (never h)
      go false None e f h = rw (e, f) refl
      go false (Some why) e f h = absurd (none why h)

-- an accepted entry that a call makes is accepted with any value, in any game
accepted_plain : (settings : Settings) (game other : Game) (core : Core) (entry : Entry) (value : Value) → is_call entry ≡ true → is_accepted settings game core (record { entry = entry; value = value }) ≡ true → is_accepted settings other core (plain entry) ≡ true
accepted_plain settings game other core (Local p word) value c e = e
accepted_plain settings game other core (Remote p f word) value c e = e
accepted_plain settings game other core (Disconnect p) value c e = e
accepted_plain settings game other core Sync value c e = e
accepted_plain settings game other core Advance value c e = e
accepted_plain settings game other core (Graft ticket route) value c e = absurd (false≢true c)
accepted_plain settings game other core (Partial to made) value c e = absurd (false≢true c)

call_at : (log : List Entry) (place : ℕ) (entry : Entry) → list_all is_call log ≡ true → slice_get log place ≡ Some entry → is_call entry ≡ true
call_at [] place entry h e = let no : None ≡ Some entry = e in absurd (cc no)
call_at (x ∷ xs) zero entry h e = let same : x ≡ entry = cc e in subst (λ (y : Entry). is_call y ≡ true) same (and_parts (is_call x) (list_all is_call xs) h).0
call_at (x ∷ xs) (suc place) entry h e = call_at xs place entry (and_parts (is_call x) (list_all is_call xs) h).1 e

-- a log of calls that a session left is refused nowhere by a session at its start
pub own_log : (step : Step) (old new : Seen) (log : List Entry) (fault : ReplayFault) → FollowsLog step old → old.log ≡ [] → AreLogged old.settings log → IsStopped step old new log fault → IsWantOfMemory fault
own_log step old new log fault follows fresh logged stopped = go fault stopped.stops
  where
    call : is_call stopped.entry ≡ true
    call = call_at log stopped.place stopped.entry logged.calls stopped.there

    accepted : is_accepted stopped.before.settings (game_of step stopped.before) stopped.before.core (plain stopped.entry) ≡ true
    accepted =
        let s : Settings = old.settings in
        let was = entries_were_accepted s logged.game logged.left.events stopped.place stopped.entry (subst (λ (l : List Entry). slice_get l stopped.place ≡ Some stopped.entry) logged.left.left stopped.there) in
        let first : is_accepted s logged.game (replay s (take stopped.place log)) (record { entry = stopped.entry; value = was.0 }) ≡ true =
        subst (λ (l : List Entry). is_accepted s logged.game (replay s (take stopped.place l)) (record { entry = stopped.entry; value = was.0 }) ≡ true) (sym logged.left.left) was.1 in
        let settings : stopped.before.settings ≡ s = ap (λ (m : Seen). m.settings) stopped.done.played.seen in
        let core : stopped.before.core ≡ replay s (take stopped.place log) =
        ap (λ (m : Seen). m.core) stopped.done.played.seen
        ∙ (λ i. fold applied (follows.core i) (stopped.done.all i))
        ∙ replay-append s old.log (take stopped.place log)
        ∙ ap (λ (l : List Entry). replay s (l ++ take stopped.place log)) fresh in
        rw (settings, core) (accepted_plain s logged.game (game_of step stopped.before) (replay s (take stopped.place log)) stopped.entry was.0 call first)

    go : (f : ReplayFault) → Stops step stopped.before new stopped.entry stopped.place f → IsWantOfMemory f
    go (NoMemory at) s = tt
    go (NotACall at) s = false≢true (sym s.2 ∙ call)
    go (RepeatedAt at) s = false≢true (sym (rw s.3 refl) ∙ accepted)
    go (RefusedAt at why) s = false≢true (sym (rw (s.3, s.4) refl) ∙ accepted)
