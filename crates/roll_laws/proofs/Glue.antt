-- A session's log is one that events leave, so each law holds of its replay.
use Rattle.std.proofs.Common.{◌≡◌, List, [], ◌∷◌, ◌++◌, refl, ap, sym, ◌∙◌, subst, true}
use Rattle.std.specs.Prelude.{if◌then◌else◌, None}
use Rattle.std.proofs.lemmas.List.Sums.{fold_push}
use Rattle.roll_frame.specs.Core.{Core, first_core}
use Rattle.roll_frame.specs.Events.{CoreEvent, log_of, replay, is_accepted, applied, played_from, played}
use Rattle.roll_frame.specs.Games.{Game}
use Rattle.roll_frame.specs.Settings.{start_refusal}
use Rattle.roll_frame.specs.declared.entry.Entry.{Entry}
use Rattle.roll_frame.specs.declared.settings.Settings.{Settings}
use Rattle.roll_laws.specs.Laws.{Always, EverAfter}
use Rattle.roll_laws.specs.Sessions.{IsLog}
use Rattle.roll_laws.proofs.Appended.{log_from-append, played_from-append}
use Rattle.roll_laws.proofs.Logs.{log_replays}

-- one more entry
pub replay-push : (settings : Settings) (log : List Entry) (entry : Entry) → replay settings (log ++ entry ∷ []) ≡ applied (replay settings log) entry
unfolding replay
replay-push settings log entry = fold_push applied (first_core settings) log entry

-- the core that the log leads to is the one after its events
pub log_played : (settings : Settings) (game : Game) (log : List Entry) (is_log : IsLog settings game log) → replay settings log ≡ played settings game is_log.events
log_played settings game log is_log = ap (replay settings) is_log.left ∙ sym (log_replays settings game is_log.events)

-- a law of all cores holds of the core that the log leads to
pub always_holds : (P : Settings → Core → Type 0) → Always P → (settings : Settings) (game : Game) (log : List Entry) → IsLog settings game log → P settings (replay settings log)
always_holds P law settings game log is_log = subst (P settings) (sym (log_played settings game log is_log)) (law settings game is_log.events is_log.starts)

-- a law of a core and any later one holds of the core that the log leads to and the one after more events
pub ever_holds : (P : Core → Core → Type 0) → EverAfter P → {settings : Settings} {game : Game} {log : List Entry} (l : IsLog settings game log) (events : List CoreEvent) (later : Core) → later ≡ played_from settings game (replay settings log) events → P (replay settings log) later
ever_holds P law {settings = settings} {game = game} {log = log} l events later e =
    let now : replay settings log ≡ played settings game l.events = log_played settings game log l in
    let whole : later ≡ played settings game (l.events ++ events) = e ∙ ap (λ (core : Core). played_from settings game core events) now ∙ sym (played_from-append settings game (first_core settings) l.events events) in
    subst (λ (core : Core). P core later) (sym now) (subst (P (played settings game l.events)) (sym whole) (law settings game l.events events l.starts))

-- the empty log, and the log after an event that is accepted
pub log_first : (settings : Settings) (game : Game) → start_refusal settings ≡ None → IsLog settings game []
log_first settings game h = record { starts = h; events = []; left = refl }

pub log_more : (settings : Settings) (game : Game) (log : List Entry) (event : CoreEvent) → IsLog settings game log → is_accepted settings game (replay settings log) event ≡ true → IsLog settings game (log ++ event.entry ∷ [])
log_more settings game log event is_log h =
    record {
      starts = is_log.starts;
      events = is_log.events ++ event ∷ [];
      left =
          let e : is_accepted settings game (played settings game is_log.events) event ≡ true = subst (λ (core : Core). is_accepted settings game core event ≡ true) (log_played settings game log is_log) h in
          ap (λ es. es ++ event.entry ∷ []) is_log.left
          ∙ sym (log_from-append settings game (first_core settings) is_log.events (event ∷ []) ∙ ap (λ b. log_of settings game is_log.events ++ (if b then event.entry ∷ [] else [])) e);
    }
