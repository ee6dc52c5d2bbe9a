-- What a session was told stands in its log.
use Rattle.std.proofs.Common.{◌≡◌, ◌⊎◌, ℕ, zero, suc, ◌<◌, arith, List, [], ◌∷◌, ◌++◌, Option, Result, Ok, Err, ap, refl, subst, sym, inl, inr}
use Rattle.std.specs.Prelude.{slice_index_or, IfErr, IfOk}
use Rattle.std.specs.List.{Contains}
use Rattle.std.proofs.lemmas.List.Elements.{Contains-append_cases, Contains-append_left, Contains-append_right}
use Rattle.roll_frame.specs.declared.entry.Entry.{Entry}
use Rattle.roll_frame.specs.declared.entry.Entry.TheVariants.{Remote}
use Rattle.roll_inputs.specs.declared.remote_word.RemoteWord.{RemoteWord}
use Rattle.roll_frame.specs.declared.refusal.Refusal.{Refusal}
use Rattle.roll_inputs.specs.declared.heard.Heard.{Heard}
use Rattle.roll_inputs.specs.declared.heard.Heard.TheVariants.{Taken, Repeated}
use Rattle.roll_session.specs.Changes.{IsHeard, IsRefused}
use Rattle.roll_session.specs.Seen.{Seen}
use Rattle.roll_relay.specs.Told.{after_word, roomless, told}
use Rattle.roll_relay.specs.Waits.{wait_itself, wait_more, wait_on, Waits, WasTold}
use Rattle.roll_relay.specs.declared.held.Held.{Held}

pub log_stays : (s : Seen) (words : List RemoteWord) (entry : Entry) → Contains s.log entry → Contains (told s words).log entry
log_stays s [] entry there = there
log_stays s (w ∷ words) entry there =
    log_stays (after_word s w) words entry (Contains-append_left s.log (Remote w.player w.frame w.word ∷ []) entry there)

the_only : (v w : RemoteWord) → Contains (v ∷ []) w → v ≡ w
the_only v w there = go there.0 there.1 there.2
  where
    go : (k : ℕ) → k < 1 → slice_index_or (v ∷ []) k w ≡ w → v ≡ w
    go zero low e = e
    go (suc k) low e = absurd (omega (arith, low))

pub words_told : (s : Seen) (words : List RemoteWord) (w : RemoteWord) → Contains words w → WasTold (told s words) w
words_told s [] w there = absurd (none there)
  where
    none : Contains [] w → ⊥
    none it = omega (arith, it.1)
words_told s (v ∷ words) w there = go (words_told (after_word s v) words w) (Contains-append_cases (v ∷ []) words w there)
  where
    first : (entry : Entry) → Contains (entry ∷ []) entry
    first entry = (0, omega arith, refl)

    go : (Contains words w → WasTold (told (after_word s v) words) w) → Contains (v ∷ []) w ⊎ Contains words w → WasTold (told s (v ∷ words)) w
    go behind (inl here) =
        log_stays (after_word s v) words (Remote w.player w.frame w.word)
        (Contains-append_right s.log (Remote v.player v.frame v.word ∷ []) (Remote w.player w.frame w.word)
        (subst (λ (u : RemoteWord). Contains (Remote v.player v.frame v.word ∷ []) (Remote u.player u.frame u.word)) (the_only v w here) (first (Remote v.player v.frame v.word))))
    go behind (inr there) = behind there

-- ---- how words wait once a session was told something

pub told_waits : (s after : Seen) (old new : Held) → after ≡ told s old.words.items → new.turns ≡ old.turns → new.words.items ≡ []
    → new.waited.items ≡ [] → Waits s after old new
told_waits s after old new is turns empty none =
    record {
      turns_are = turns;
      none = λ for_none was. empty;
      log = λ entry there. subst (λ (x : Seen). Contains x.log entry) (sym is) (log_stays s old.words.items entry there);
      which = inr (record {
        all_told = λ w there. subst (λ (x : Seen). WasTold x w) (sym is) (words_told s old.words.items w there);
        none_waited = none;
      });
    }

pub one_more : (s after : Seen) (entry : Entry) (held : Held) → after.log ≡ s.log ++ entry ∷ [] → Waits s after held held
one_more s after entry held is =
    wait_on s after held (λ e there. subst (λ (log : List Entry). Contains log e) (sym is) (Contains-append_left s.log (entry ∷ []) e there))

pub said_waits : (s after : Seen) (p frame word : ℕ) (refusal : Option Refusal) (held : Held) (said : Result Heard Refusal)
    → IfOk said (IsHeard s after p frame word) → IfErr said (IsRefused refusal s after) → Waits s after held held
said_waits s after p frame word refusal held (Ok Taken) heard refused =
    one_more s after (Remote p frame word) held (ap (λ (x : Seen). x.log) heard.2)
said_waits s after p frame word refusal held (Ok Repeated) heard refused =
    subst (λ (x : Seen). Waits s x held held) (sym heard.1) (wait_itself s held)
said_waits s after p frame word refusal held (Err why) heard refused =
    subst (λ (x : Seen). Waits s x held held) (sym refused.unchanged) (wait_itself s held)

-- there was made room before
pub waits_past : (s mid after : Seen) (old new : Held) → roomless mid ≡ roomless s → Waits mid after old new → Waits s after old new
waits_past s mid after old new same waits =
    let log = ap (λ (x : Seen). x.log) (sym same) in
    wait_more s mid after old old new (wait_on s mid old (λ entry there. subst (λ (l : List Entry). Contains l entry) log there)) waits

pub waits_same : {S : Type 0} (seen : S → Seen) (old new : S) (held : Held) → new ≡ old → Waits (seen old) (seen new) held held
waits_same seen old new held same =
    subst (λ s. Waits (seen old) (seen s) held held) (sym same) (wait_itself (seen old) held)
