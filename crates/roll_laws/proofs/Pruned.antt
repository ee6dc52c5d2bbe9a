-- What a session keeps after an accepted event, from what it kept before: what a pruned tree holds.
use Rattle.std.proofs.Common.{◌≡◌, List, ◌++◌, sym, subst, true, inl, inr}
use Rattle.std.specs.Prelude.{◌⊎◌, filter}
use Rattle.roll_frame.specs.Cells.{Rows}
use Rattle.roll_frame.specs.Core.{Core, kept, settled, is_live}
use Rattle.roll_frame.specs.Events.{CoreEvent, replay, is_accepted, applied, played, added_by}
use Rattle.roll_frame.specs.Games.{Game}
use Rattle.roll_frame.specs.declared.entry.Entry.{Entry}
use Rattle.roll_frame.specs.declared.settings.Settings.{Settings}
use Rattle.roll_laws.specs.Sessions.{IsLog}
use Rattle.roll_laws.proofs.Accepted.{after_accepted}
use Rattle.roll_laws.proofs.Saved.{In, in_left, in_right, in_either}
use Rattle.roll_laws.proofs.Prefixes.{in_filter, filter_in}
use Rattle.roll_laws.proofs.Least.{kept_after}
use Rattle.roll_laws.proofs.Glue.{log_played}

-- what is kept after an accepted event: what is then live of what was kept, and of what it added
pub kept_more : (settings : Settings) (game : Game) (log : List Entry) (event : CoreEvent) → IsLog settings game log → is_accepted settings game (replay settings log) event ≡ true
    → kept (applied (replay settings log) event.entry)
    ≡ filter (is_live (settled (applied (replay settings log) event.entry)) (applied (replay settings log) event.entry).players) (kept (replay settings log) ++ added_by (replay settings log) event.entry)
kept_more settings game log event l a =
    let e = log_played settings game log l in
    let p : Core = played settings game l.events in
    let b : is_accepted settings game p event ≡ true = subst (λ (core : Core). is_accepted settings game core event ≡ true) e a in
    let k = kept_after settings game l.events event l.starts b in
    subst (λ (core : Core). kept (applied core event.entry) ≡ filter (is_live (settled (applied core event.entry)) (applied core event.entry).players) (kept core ++ added_by core event.entry)) (sym e)
    (subst (λ (c : Core). kept c ≡ filter (is_live (settled c) c.players) (kept p ++ added_by p event.entry)) (after_accepted settings game p event b) k)

-- the same, path by path
pub kept_is : (settings : Settings) (game : Game) (log : List Entry) (event : CoreEvent) (path : Rows) → IsLog settings game log → is_accepted settings game (replay settings log) event ≡ true
    → In path (kept (applied (replay settings log) event.entry)) → (In path (kept (replay settings log)) ⊎ In path (added_by (replay settings log) event.entry)) × (is_live (settled (applied (replay settings log) event.entry)) (applied (replay settings log) event.entry).players path ≡ true)
kept_is settings game log event path l a i =
    let new : Core = applied (replay settings log) event.entry in
    let f = in_filter (is_live (settled new) new.players) path (kept (replay settings log) ++ added_by (replay settings log) event.entry) (subst (In path) (kept_more settings game log event l a) i) in
    (in_either path (kept (replay settings log)) (added_by (replay settings log) event.entry) f.0, f.1)

pub is_kept : (settings : Settings) (game : Game) (log : List Entry) (event : CoreEvent) (path : Rows) → IsLog settings game log → is_accepted settings game (replay settings log) event ≡ true
    → In path (kept (replay settings log)) ⊎ In path (added_by (replay settings log) event.entry) → is_live (settled (applied (replay settings log) event.entry)) (applied (replay settings log) event.entry).players path ≡ true → In path (kept (applied (replay settings log) event.entry))
is_kept settings game log event path l a i w =
    let new : Core = applied (replay settings log) event.entry in
    subst (In path) (sym (kept_more settings game log event l a)) (filter_in (is_live (settled new) new.players) path (kept (replay settings log) ++ added_by (replay settings log) event.entry) (either i) w)
  where
    either : In path (kept (replay settings log)) ⊎ In path (added_by (replay settings log) event.entry) → In path (kept (replay settings log) ++ added_by (replay settings log) event.entry)
    either (inl j) = in_left path (kept (replay settings log)) (added_by (replay settings log) event.entry) j
    either (inr j) = in_right path (kept (replay settings log)) (added_by (replay settings log) event.entry) j
