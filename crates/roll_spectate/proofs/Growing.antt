-- A session whose log grows.
use Rattle.std.proofs.Common.{◌≡◌, ◌∙◌, ◌≤◌, List, None, [], ◌∷◌, ◌++◌, length, take, Bool, true, false, cond, refl, sym, ap, arith}
use Rattle.roll_frame.specs.Cells.{Rows}
use Rattle.roll_frame.specs.Core.{Core, first_core, settled}
use Rattle.roll_frame.specs.Events.{CoreEvent, after, is_accepted, log_from, played, replay}
use Rattle.roll_frame.specs.Games.{Game}
use Rattle.roll_frame.specs.Settings.{start_refusal}
use Rattle.roll_frame.specs.Timeline.{timeline}
use Rattle.roll_frame.specs.declared.entry.Entry.{Entry}
use Rattle.roll_frame.specs.declared.settings.Settings.{Settings}
use Rattle.roll_laws.proofs.KeptPaths.{settled_never_falls, settled_rows_stay}
use Rattle.roll_laws.proofs.Logs.{log_replays}
use Rattle.roll_laws.proofs.Saved.{take_timeline}
use Rattle.roll_laws.specs.Sessions.{IsLog}
use Rattle.roll_session.specs.Standing.{settled_rows}
use Rattle.roll_spectate.specs.Sent.{IsFirstPart, SentRowsStay}
use Rattle.roll_spectate.proofs.Parts.{part_is_time, time_is_part}

module _ (settings : Settings) (game : Game) where
  -- events whose log begins with these entries begin with events that left these
  record Begins (core : Core) (events : List CoreEvent) (log : List Entry) : Type 0 where
    before : List CoreEvent
    later : List CoreEvent
    all : events ≡ before ++ later
    left : log ≡ log_from settings game core before

  begins : (core : Core) (events : List CoreEvent) (log more : List Entry) → log ++ more ≡ log_from settings game core events → Begins core events log
  begins core events [] more e = record { before = []; later = events; all = refl; left = refl }
  begins core [] (entry ∷ log) more e = absurd (cc e)
  begins core (event ∷ events) (entry ∷ log) more e = go (is_accepted settings game core event) refl e (λ log e. begins (after settings game core event) events log more e)
    where
      next : Core
      next = after settings game core event

      added : (before : List CoreEvent) → {b : Bool} → is_accepted settings game core event ≡ b → log_from settings game core (event ∷ before) ≡ cond b (event.entry ∷ log_from settings game next before) (log_from settings game next before)
      added before accepted = ap (λ b. cond b (event.entry ∷ log_from settings game next before) (log_from settings game next before)) accepted

      go : (b : Bool) → is_accepted settings game core event ≡ b → entry ∷ log ++ more ≡ cond b (event.entry ∷ log_from settings game next events) (log_from settings game next events)
          → ((log : List Entry) → log ++ more ≡ log_from settings game next events → Begins next events log) → Begins core (event ∷ events) (entry ∷ log)
      go true accepted e rest =
          let r = rest log (cc e) in
          record {
            before = event ∷ r.before;
            later = r.later;
            all = ap (λ es. event ∷ es) r.all;
            left = ap (λ es. entry ∷ es) r.left ∙ ap (λ x. x ∷ log_from settings game next r.before) (cc e) ∙ sym (added r.before accepted);
          }
      go false accepted e rest =
          let r = rest (entry ∷ log) e in
          record {
            before = event ∷ r.before;
            later = r.later;
            all = ap (λ es. event ∷ es) r.all;
            left = r.left ∙ sym (added r.before accepted);
          }

-- what a log begins with is a log
pub log_begins : (settings : Settings) (game : Game) (log more : List Entry) → IsLog settings game (log ++ more) → IsLog settings game log
log_begins settings game log more l =
    let r = begins settings game (first_core settings) l.events log more l.left in
    record { starts = l.starts; events = r.before; left = r.left }

-- what was a first part of the settled rows is one after more events
grown : (settings : Settings) (game : Game) (events more : List CoreEvent) (rows : Rows) → start_refusal settings ≡ None → IsFirstPart rows (settled_rows (played settings game events)) → IsFirstPart rows (settled_rows (played settings game (events ++ more)))
grown settings game events more rows starts first =
    let old = played settings game events in
    let new = played settings game (events ++ more) in
    let n = length rows in
    let part = part_is_time old.players (settled old) rows first in
    let stay : timeline new.players (settled old) ≡ timeline old.players (settled old) = settled_rows_stay settings game events more starts in
    let same : timeline old.players n ≡ timeline new.players n = sym (take_timeline old.players n (settled old) part.1) ∙ ap (take n) (sym stay) ∙ take_timeline new.players n (settled old) part.1 in
    let low : n ≤ settled new = omega (arith, part.1, settled_never_falls settings game events more starts) in
    time_is_part new.players (settled new) rows (part.0 ∙ same) low

pub sent_rows_stay : SentRowsStay
sent_rows_stay settings game log more rows l first =
    let r = begins settings game (first_core settings) l.events log more l.left in
    let now : replay settings log ≡ played settings game r.before = ap (replay settings) r.left ∙ sym (log_replays settings game r.before) in
    let later : replay settings (log ++ more) ≡ played settings game (r.before ++ r.later) = ap (replay settings) l.left ∙ sym (log_replays settings game l.events) ∙ ap (played settings game) r.all in
    rw later (grown settings game r.before r.later rows l.starts (rw (← now) first))
