-- What is answered.
use Rattle.std.proofs.Common.{◌≡◌, ◌∙◌, ℕ, ◌+◌, ◌-◌, [], ◌∷◌, Bool, cond, refl, sym, ap, subst, arith, false, true, inl, inr, Some, None, Ok, Err, Option, Result}
use Rattle.std.specs.Prelude.{◌≢◌, max, nat_le, IfErr, IfOk, OnErr, OnOk, if◌then◌else◌}
use Rattle.std.specs.Option.{option_map_or}
use Rattle.roll_frame.specs.Events.{CoreEvent, answer, is_repeat, tests_of}
use Rattle.roll_frame.specs.Refusals.{first_refusal}
use Rattle.roll_frame.specs.declared.entry.Entry.{Entry}
use Rattle.roll_frame.specs.declared.entry.Entry.TheVariants.{Local, Remote, Disconnect, Partial}
use Rattle.roll_frame.specs.declared.refusal.Refusal.{Refusal}
use Rattle.roll_frame.specs.declared.refusal.Refusal.TheVariants.{Conflict, FrameLimit, Gap, InputTwice, InvalidPlayer, LocalInputMissing, LogFull, NoMemory, PlayerDisconnected, PredictionThreshold, QueueFull}
use Rattle.roll_frame.specs.declared.reply.Reply.{Reply}
use Rattle.roll_frame.specs.declared.reply.Reply.TheVariants.{Refused, Repeated}
use Rattle.roll_inputs.specs.declared.heard.Heard.{Heard}
use Rattle.roll_inputs.specs.declared.heard.Heard.TheVariants.{Taken as HeardNow, Repeated as HeardBefore}
use Rattle.roll_game.specs.declared.counts.Counts.{Counts}
use Rattle.roll_inputs.proofs.Refusals.{first_refusal-some}
use Rattle.roll_session.proofs.Runs.{replied_accepted, replied_refused, replied_repeated}
use Rattle.roll_session.specs.Answered.{counts_by, replied, with_entries, IsAnswered, IsCutShort, IsReplied, IsShort}
use Rattle.roll_frame.specs.Core.{Core}
use Rattle.roll_frame.specs.Games.{Game}
use Rattle.roll_frame.specs.declared.settings.Settings.{Settings}
use Rattle.roll_session.specs.Changes.{IsPartial}
use Rattle.roll_session.specs.Held.{inputs_of}
use Rattle.roll_session.specs.Saves.{refusal_in, repeats}
use Rattle.roll_session.specs.Calls.{entry_of, event_of, input_reply, judged, IsAdmitted, IsAllowed, IsInput, IsRollTo}
use Rattle.roll_session.specs.Seen.{Step, Seen, game_of, plain, refusal_of}
use Rattle.roll_session.specs.declared.event.Call.{Call}
use Rattle.roll_session.specs.declared.event.Call.TheVariants.{Local as LocalCall, Remote as RemoteCall, Disconnect as DisconnectCall, Sync as SyncCall, Advance as AdvanceCall}

-- what a reply to a remote word says is what is judged of it
pub judged_word : (result : Result Heard Refusal) (again : Bool) (test : Option Refusal) → IfOk result (λ heard. heard ≡ (if again then HeardBefore else HeardNow)) → IfOk result (λ heard. heard ≡ HeardNow → test ≡ None) → IfErr result (λ why. test ≡ Some why) → OnErr result (again ≡ false)
    → result ≡ judged again test
judged_word (Ok heard) true test is fine tested fresh = ap Ok is
judged_word (Ok heard) false test is fine tested fresh = ap Ok is ∙ ap (judged false) (sym (fine is))
judged_word (Err why) again test is fine tested fresh = ap (judged false) (sym tested) ∙ ap (λ b. judged b test) (sym fresh)

-- what is judged of a call by the inputs is what is judged by the core
pub judged_in : (settings : Settings) (game : Game) (core : Core) (call : Call) → judged (repeats (inputs_of settings core) (entry_of call)) (refusal_in (inputs_of settings core) (entry_of call)) ≡ judged (is_repeat core (entry_of call)) (first_refusal (tests_of settings game core [] (entry_of call)))
judged_in settings game core (LocalCall p word) = refl
judged_in settings game core (RemoteCall p f word) = refl
judged_in settings game core (DisconnectCall p) = refl
judged_in settings game core SyncCall = refl
judged_in settings game core AdvanceCall = refl

-- a call that is judged against
pub refused_replied : (step : Step) (old : Seen) (call : Call) (why : Refusal) → Err why ≡ judged (is_repeat old.core (entry_of call)) (first_refusal (tests_of old.settings (game_of step old) old.core [] (entry_of call)))
    → IsReplied step old old (event_of call) (Refused why)
refused_replied step old call why e =
    let said = against _ _ e in
    replied_refused step old (event_of call) why said.0 (first_refusal-some (tests_of old.settings (game_of step old) old.core [] (entry_of call)) _ why said.1)
  where
    against : (again : Bool) (test : Option Refusal) → Err why ≡ judged again test → (again ≡ false) × (test ≡ Some why)
    against true test e = absurd (cc e)
    against false None e = absurd (cc e)
    against false (Some first) e = (refl, ap Some (cc e))

-- a refusal of the rules is no want of memory
other_first : (b : Bool) (why : Refusal) (rest : Option Refusal) → (why ≡ NoMemory → ⊥) → (rest ≡ Some NoMemory → ⊥) → cond b (Some why) rest ≡ Some NoMemory → ⊥
other_first true why rest one more e = one (cc e)
other_first false why rest one more e = more e

full : (s : Seen) → cond (nat_le s.settings.log s.core.logged) (Some LogFull) None ≡ Some NoMemory → ⊥
full s = other_first (nat_le s.settings.log s.core.logged) LogFull None (λ e. cc e) (λ e. cc e)

never_memory : (step : Step) (s : Seen) (call : Call) → refusal_of step s (entry_of call) ≡ Some NoMemory → ⊥
never_memory step s (LocalCall p word) = other_first _ InvalidPlayer _ (λ e. cc e) (other_first _ InputTwice _ (λ e. cc e) (other_first _ PredictionThreshold _ (λ e. cc e) (other_first _ FrameLimit _ (λ e. cc e) (full s))))
never_memory step s (RemoteCall p f word) = other_first _ InvalidPlayer _ (λ e. cc e) (other_first _ PlayerDisconnected _ (λ e. cc e) (other_first _ Conflict _ (λ e. cc e) (other_first _ Gap _ (λ e. cc e) (other_first _ QueueFull _ (λ e. cc e) (full s)))))
never_memory step s (DisconnectCall p) = other_first _ InvalidPlayer _ (λ e. cc e) (other_first _ PlayerDisconnected _ (λ e. cc e) (full s))
never_memory step s SyncCall = full s
never_memory step s AdvanceCall = other_first _ LocalInputMissing _ (λ e. cc e) (full s)

-- nor is what a call gives
gives_other : (s : Seen) (call : Call) → answer s.core (entry_of call) ≡ Refused NoMemory → ⊥
gives_other s (LocalCall p word) e = cc e
gives_other s (RemoteCall p f word) e = cc e
gives_other s (DisconnectCall p) e = cc e
gives_other s SyncCall e = cc e
gives_other s AdvanceCall e = cc e

-- so what is answered for want of memory isn't the rules' reply
pub short_of : (step : Step) (old new : Seen) (call : Call) → IsAnswered step old new (event_of call) (Refused NoMemory) → IsShort step old new (event_of call)
short_of step old new call (inr h) = h.1
short_of step old new call (inl h) = absurd (go (is_repeat old.core (entry_of call)) (refusal_of step old (entry_of call)) (never_memory step old call) h.said_is)
  where
    go : (b : Bool) (o : Option Refusal) → (o ≡ Some NoMemory → ⊥) → Refused NoMemory ≡ cond b Repeated (option_map_or Refused o (answer old.core (entry_of call))) → ⊥
    go true o never e = cc e
    go false None never e = gives_other old call (sym e)
    go false (Some why) never e = never (ap Some (cc e))

-- and any other answer is
pub replied_of : (step : Step) (old new : Seen) (event : CoreEvent) (said : Reply) → IsAnswered step old new event said → said ≢ Refused NoMemory → IsReplied step old new event said
replied_of step old new event said (inl r) never = r
replied_of step old new event said (inr h) never = absurd (never h.0)

-- what is reserved for an entry goes with it
reserved_goes : (s : Seen) (entry : Entry) (counts : Counts) → with_entries (record s { reserved = max s.reserved 1 }) (entry ∷ []) counts ≡ with_entries s (entry ∷ []) counts
reserved_goes s entry counts = let same : max s.reserved 1 - 1 ≡ s.reserved - 1 = omega arith in λ i. record (with_entries s (entry ∷ []) counts) { reserved = same i }

-- a player's input that was let in, and is taken
pub taken_replied : (step : Step) (old mid new : Seen) (call : Call) → IsInput call → IsAdmitted step old mid call HeardNow → new ≡ with_entries mid (entry_of call ∷ []) mid.counts → IsReplied step old new (event_of call) (input_reply call HeardNow)
taken_replied step old mid new call input a h =
    let whole : new ≡ with_entries old (entry_of call ∷ []) old.counts = h ∙ ap (λ (m : Seen). with_entries m (entry_of call ∷ []) m.counts) a.1 ∙ reserved_goes old (entry_of call) old.counts in
    go call input a.0 whole
  where
    go : (c : Call) → IsInput c → IsAllowed step old c → new ≡ with_entries old (entry_of c ∷ []) old.counts → IsReplied step old new (event_of c) (input_reply c HeardNow)
    go (LocalCall p word) i allowed e = replied_accepted step old (plain (Local p word)) new allowed.new allowed.accepted e
    go (RemoteCall p f word) i allowed e = replied_accepted step old (plain (Remote p f word)) new allowed.new allowed.accepted e
    go (DisconnectCall p) i allowed e = replied_accepted step old (plain (Disconnect p)) new allowed.new allowed.accepted e
    go SyncCall i allowed e = absurd i
    go AdvanceCall i allowed e = absurd i

-- and one that repeats a word
pub repeated_replied : (step : Step) (old new : Seen) (call : Call) → IsAdmitted step old new call HeardBefore → IsReplied step old new (event_of call) (input_reply call HeardBefore)
repeated_replied step old new call a = subst (λ (s : Seen). IsReplied step old s (event_of call) (input_reply call HeardBefore)) (sym a.1) (go call a.0)
  where
    go : (c : Call) → is_repeat old.core (entry_of c) ≡ true → IsReplied step old old (event_of c) (input_reply c HeardBefore)
    go (RemoteCall p f word) e = replied_repeated step old (plain (Remote p f word)) e
    go (LocalCall p word) e = absurd (cc e)
    go (DisconnectCall p) e = absurd (cc e)
    go SyncCall e = absurd (cc e)
    go AdvanceCall e = absurd (cc e)

-- a roll that was let in
pub rolled_answered : (step : Step) (old mid new : Seen) (call : Call) (to : ℕ) (heard : Heard) (result : Result ℕ Refusal) → IsRollTo old.core call to → IsAdmitted step old mid call heard
    → OnOk result (new ≡ with_entries mid (entry_of call ∷ []) (counts_by mid.core (entry_of call) mid.counts)) → OnErr result (IsPartial mid new to) → IfErr result (λ why. why ≡ NoMemory)
    → IsAnswered step old new (event_of call) (replied (λ from. answer old.core (entry_of call)) result)
rolled_answered step old mid new call to HeardBefore result is_to a entered cut why = absurd (go call is_to a.0)
  where
    go : (c : Call) → IsRollTo old.core c to → is_repeat old.core (entry_of c) ≡ true → ⊥
    go SyncCall i e = cc e
    go AdvanceCall i e = cc e
    go (LocalCall p word) i e = i
    go (RemoteCall p f word) i e = i
    go (DisconnectCall p) i e = i
rolled_answered step old mid new call to HeardNow (Ok from) is_to a entered cut why =
    inl (replied_accepted step old (event_of call) new a.0.new a.0.accepted (entered ∙ ap (λ (m : Seen). with_entries m (entry_of call ∷ []) (counts_by m.core (entry_of call) m.counts)) a.1 ∙ reserved_goes old (entry_of call) (counts_by old.core (entry_of call) old.counts)))
rolled_answered step old mid new call to HeardNow (Err said) is_to a entered cut why =
    inr (ap Refused why, record { accepted = rw (a.0.new, a.0.accepted) refl; left = inr (go call is_to (subst (λ (m : Seen). IsPartial m new to) a.1 cut)) })
  where
    again : (n : ℕ) → IsPartial (record old { reserved = max old.reserved 1 }) new n → IsPartial old new n
    again n h = record { made = h.made; few = h.few; seen = h.seen ∙ reserved_goes old (Partial n h.made) new.counts; counts = h.counts }

    go : (c : Call) → IsRollTo old.core c to → IsPartial (record old { reserved = max old.reserved 1 }) new to → IsCutShort old new (entry_of c)
    go SyncCall i h = again old.core.frame (subst (IsPartial (record old { reserved = max old.reserved 1 }) new) i h)
    go AdvanceCall i h = again (old.core.frame + 1) (subst (IsPartial (record old { reserved = max old.reserved 1 }) new) i h)
    go (LocalCall p word) i h = absurd i
    go (RemoteCall p f word) i h = absurd i
    go (DisconnectCall p) i h = absurd i
