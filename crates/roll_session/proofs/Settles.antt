-- How far the timeline settles after an accepted entry, and which of the paths that were held are kept.
use Rattle.std.proofs.Common.{◌≡◌, ℕ, ◌+◌, ◌-◌, ◌≤◌, List, [], ◌∷◌, ◌++◌, length, refl, ap, sym, ◌∙◌, Bool, true, false, arith, drop, subst, inl, inr, min, map}
use Rattle.std.specs.Prelude.{◌⊎◌, filter, nat_le, ◌&&◌}
use Rattle.std.proofs.lemmas.Bool.{cases_Bool}
use Rattle.std.proofs.lemmas.List.{take-append-drop, length-append, append_assoc}
use Rattle.roll_frame.specs.Cells.{Rows}
use Rattle.roll_frame.specs.Core.{Core, is_possible, settled, is_live, kept}
use Rattle.roll_frame.specs.Events.{CoreEvent, replay, is_accepted, applied, played, added_by}
use Rattle.roll_frame.specs.Games.{Game}
use Rattle.roll_frame.specs.Paths.{begins_with, longest}
use Rattle.roll_frame.specs.Timeline.{Player, front, timeline}
use Rattle.roll_frame.specs.declared.entry.Entry.{Entry}
use Rattle.roll_frame.specs.declared.settings.Settings.{Settings}
use Rattle.roll_laws.specs.Sessions.{IsLog}
use Rattle.roll_laws.proofs.Accepted.{after_accepted}
use Rattle.roll_laws.proofs.Fronts.{settled_onward, depth_is}
use Rattle.roll_laws.proofs.Glue.{always_holds, log_played, log_more, replay-push}
use Rattle.roll_laws.proofs.Known.{possible_from_fits, on_time_fits}
use Rattle.roll_laws.proofs.KeptPaths.{settled_kept, time_possible}
use Rattle.roll_laws.proofs.Least.{settled_after}
use Rattle.roll_laws.proofs.Prefixes.{filter_in}
use Rattle.roll_laws.proofs.Pruned.{kept_more}
use Rattle.roll_laws.proofs.Ruled.{long_begin_settled}
use Rattle.roll_laws.proofs.Saved.{In, in_left, has_in, begins_on_time}
use Rattle.roll_laws.proofs.Sound.{Sound, Good, sound_played, step_any, staying}
use Rattle.roll_frame.proofs.Beginnings.{begins_is, begins-behind}
use Rattle.roll_frame.proofs.Timelines.{length_timeline}
use Rattle.roll_session.specs.Standing.{rows_from, from_start}
use Rattle.roll_session.proofs.Rows.{longest_on, longest_some, length-rows_from, settled-rows_from}

-- up to where the timeline can settle: what is confirmed and reached
abbrev pub until : Core → ℕ
until core = min (front core.players) core.frame

-- how many rows settle past a frame, where these paths go on from it
abbrev pub newly : Core → ℕ → List Rows → ℕ
newly core s ps = longest ps (rows_from core.players s (until core - s))

-- what begins the timeline is possible
begins_possible : (ps : List Player) (m : ℕ) (p : Rows) → begins_with (timeline ps m) p ≡ true → is_possible ps p ≡ true
begins_possible ps m p b = possible_from_fits 0 ps p (on_time_fits 0 ps p (begins_on_time ps m p b).0)

-- what goes on from the rows, goes on by one of the paths
pub start_in : (T q : Rows) (ps : List Rows) → In q (from_start T ps) → (p : Rows) × In p ps × (q ≡ T ++ p)
start_in T q [] h = absurd h
start_in T q (x ∷ xs) (inl e) = (x, inl refl, e)
start_in T q (x ∷ xs) (inr h) = let r = start_in T q xs h in (r.0, inr r.1, r.2)

nothing_more : (T p : Rows) → T ≡ T ++ p → p ≡ []
nothing_more T [] e = refl
nothing_more T (row ∷ rows) e = absurd (omega (arith, ap length e, length-append T (row ∷ rows)))

-- the rows go on by nothing where they are one of what goes on
pub start_root : (T : Rows) (ps : List Rows) → In T (from_start T ps) → In [] ps
start_root T ps h = let r = start_in T T ps h in subst (λ (q : Rows). In q ps) (nothing_more T r.0 r.2) r.1

-- a test beside another is a test of those that pass the other
filter_both : (a b c : Rows → Bool) (xs : List Rows) → ((q : Rows) → b q ≡ true → a q ≡ c q) → filter (λ q. a q && b q) xs ≡ filter c (filter b xs)
filter_both a b c [] f = refl
filter_both a b c (x ∷ xs) f = go (cases_Bool (b x)) (cases_Bool (a x)) (filter_both a b c xs f)
  where
    go : (b x ≡ true) ⊎ (b x ≡ false) → (a x ≡ true) ⊎ (a x ≡ false) → filter (λ q. a q && b q) xs ≡ filter c (filter b xs) → filter (λ q. a q && b q) (x ∷ xs) ≡ filter c (filter b (x ∷ xs))
    go (inl e) (inl g) rest =
        let k : c x ≡ true = sym (f x e) ∙ g in
        rw e (rw g (rw k (ap (λ ys. x ∷ ys) rest)))
    go (inl e) (inr g) rest =
        let k : c x ≡ false = sym (f x e) ∙ g in
        rw e (rw g (rw k rest))
    go (inr e) (inl g) rest = rw e (rw g rest)
    go (inr e) (inr g) rest = rw e (rw g rest)

-- of paths that go on from the rows, those that begin with more rows go on from these
pub begin_further : (T R : Rows) (ps : List Rows)
    → filter (λ p. begins_with p (T ++ R)) (from_start T ps) ≡ from_start (T ++ R) (map (drop (length R)) (filter (λ q. begins_with q R) ps))
begin_further T R [] = refl
begin_further T R (x ∷ xs) = go (cases_Bool (begins_with x R)) (begin_further T R xs)
  where
    go : (begins_with x R ≡ true) ⊎ (begins_with x R ≡ false) → filter (λ p. begins_with p (T ++ R)) (from_start T xs) ≡ from_start (T ++ R) (map (drop (length R)) (filter (λ q. begins_with q R) xs))
        → filter (λ p. begins_with p (T ++ R)) (from_start T (x ∷ xs)) ≡ from_start (T ++ R) (map (drop (length R)) (filter (λ q. begins_with q R) (x ∷ xs)))
    go (inl e) rest =
        let parts : R ++ drop (length R) x ≡ x = ap (λ (q : Rows). q ++ drop (length R) x) (begins_is x R e) ∙ take-append-drop (length R) x in
        let there : T ++ x ≡ (T ++ R) ++ drop (length R) x = ap (λ (q : Rows). T ++ q) (sym parts) ∙ sym (append_assoc T R (drop (length R) x)) in
        rw (begins-behind T x R) (rw e (cc (there, rest)))
    go (inr e) rest = rw (begins-behind T x R) (rw e rest)

-- what the paths that were held tell of what is settled and kept after an entry
pub record Settles (core next : Core) (ps : List Rows) : Type 0 where
  pub reached : settled core ≤ until next
  pub settled_is : settled next ≡ settled core + newly next (settled core) ps
  pub kept_is : from_start (timeline next.players (settled core + newly next (settled core) ps)) (map (drop (newly next (settled core) ps)) (filter (λ q. begins_with q (rows_from next.players (settled core) (newly next (settled core) ps))) ps)) ≡ kept next

-- the longest of paths, the possible ones of which go on from settled rows
longest_settles : (next : Core) (s : ℕ) (all ps : List Rows) → s ≤ until next → from_start (timeline next.players s) ps ≡ filter (is_possible next.players) all → In [] ps → longest all (timeline next.players (until next)) ≡ s + newly next s ps
longest_settles next s all ps low e root =
    let m : ℕ = until next in
    let T : Rows = timeline next.players s in
    let R : Rows = rows_from next.players s (m - s) in
    let place : s + (m - s) ≡ m = omega arith in
    let time : timeline next.players m ≡ T ++ R = sym (settled-rows_from next.players s (m - s) ∙ ap (timeline next.players) place) in
    sym (longest_some (is_possible next.players) all (timeline next.players m) (λ p i b. begins_possible next.players m p b))
    ∙ ap (λ (qs : List Rows). longest qs (timeline next.players m)) (sym e)
    ∙ ap (longest (from_start T ps)) time
    ∙ longest_on T ps R root
    ∙ ap (λ k. k + longest ps R) (length_timeline next.players s)

-- those that stay live, of paths, the possible ones of which go on from settled rows
live_settle : (next : Core) (s n : ℕ) (all ps : List Rows) → settled next ≡ s + n → from_start (timeline next.players s) ps ≡ filter (is_possible next.players) all
    → ((path : Rows) → is_possible next.players path ≡ true → nat_le (settled next) (length path) ≡ begins_with path (timeline next.players (settled next)))
    → filter (is_live (settled next) next.players) all ≡ from_start (timeline next.players (s + n)) (map (drop n) (filter (λ q. begins_with q (rows_from next.players s n)) ps))
live_settle next s n all ps far e long =
    let T : Rows = timeline next.players s in
    let R : Rows = rows_from next.players s n in
    let time : timeline next.players (settled next) ≡ T ++ R = ap (timeline next.players) far ∙ sym (settled-rows_from next.players s n) in
    filter_both (λ p. nat_le (settled next) (length p)) (is_possible next.players) (λ p. begins_with p (T ++ R)) all (λ p h. long p h ∙ ap (begins_with p) time)
    ∙ ap (filter (λ p. begins_with p (T ++ R))) (sym e)
    ∙ begin_further T R ps
    ∙ ap (λ (q : Rows). from_start q (map (drop (length R)) (filter (λ q. begins_with q R) ps))) (settled-rows_from next.players s n)
    ∙ ap (λ k. from_start (timeline next.players (s + n)) (map (drop k) (filter (λ q. begins_with q R) ps))) (length-rows_from next.players s n)

-- the settled frame after an accepted entry, among what was kept and what it added
settled_more : (settings : Settings) (game : Game) (log : List Entry) (event : CoreEvent) → IsLog settings game log → is_accepted settings game (replay settings log) event ≡ true
    → settled (applied (replay settings log) event.entry)
    ≡ longest (kept (replay settings log) ++ added_by (replay settings log) event.entry) (timeline (applied (replay settings log) event.entry).players (until (applied (replay settings log) event.entry)))
settled_more settings game log event l a =
    let e = log_played settings game log l in
    let p : Core = played settings game l.events in
    let b : is_accepted settings game p event ≡ true = subst (λ (core : Core). is_accepted settings game core event ≡ true) e a in
    let k = settled_after settings game l.events event l.starts b in
    subst (λ (core : Core). settled (applied core event.entry) ≡ longest (kept core ++ added_by core event.entry) (timeline (applied core event.entry).players (until (applied core event.entry)))) (sym e)
    (subst (λ (c : Core). settled c ≡ longest (kept p ++ added_by p event.entry) (timeline c.players (until c))) (after_accepted settings game p event b) k)

-- after an accepted entry the possible paths that are long enough begin with what is then settled
long_more : (settings : Settings) (game : Game) (log : List Entry) (event : CoreEvent) → IsLog settings game log → is_accepted settings game (replay settings log) event ≡ true
    → (path : Rows) → is_possible (applied (replay settings log) event.entry).players path ≡ true
    → nat_le (settled (applied (replay settings log) event.entry)) (length path) ≡ begins_with path (timeline (applied (replay settings log) event.entry).players (settled (applied (replay settings log) event.entry)))
long_more settings game log event l a =
    let Long : Core → Type 0 = λ core. (path : Rows) → is_possible core.players path ≡ true → nat_le (settled core) (length path) ≡ begins_with path (timeline core.players (settled core)) in
    subst Long (replay-push settings log event.entry)
    (always_holds (λ s core. (path : Rows) → is_possible core.players path ≡ true → nat_le (settled core) (length path) ≡ begins_with path (timeline core.players (settled core))) long_begin_settled settings game (log ++ event.entry ∷ []) (log_more settings game log event l a))

-- the core of a log is sound, and the one after an accepted entry is later and sound
good_more : (settings : Settings) (game : Game) (log : List Entry) (event : CoreEvent) → IsLog settings game log → is_accepted settings game (replay settings log) event ≡ true
    → Sound settings (replay settings log) × Good settings (replay settings log) (applied (replay settings log) event.entry)
good_more settings game log event l a =
    let s = always_holds Sound sound_played settings game log l in
    (s, subst (Good settings (replay settings log)) (after_accepted settings game (replay settings log) event a) (step_any settings game (replay settings log) event s))

-- how far it settles after an event, and what is kept of the paths that were held from the settled frame on
pub settles : (settings : Settings) (game : Game) (log : List Entry) (event : CoreEvent) → IsLog settings game log → is_accepted settings game (replay settings log) event ≡ true
    → (ps : List Rows)
    → from_start (timeline (applied (replay settings log) event.entry).players (settled (replay settings log))) ps ≡ filter (is_possible (applied (replay settings log) event.entry).players) (kept (replay settings log) ++ added_by (replay settings log) event.entry)
    → timeline (applied (replay settings log) event.entry).players (settled (replay settings log)) ≡ timeline (replay settings log).players (settled (replay settings log))
    → Settles (replay settings log) (applied (replay settings log) event.entry) ps
settles settings game log event l a ps e same =
    let core : Core = replay settings log in
    let next : Core = applied core event.entry in
    let s : ℕ = settled core in
    let all : List Rows = kept core ++ added_by core event.entry in
    let T : Rows = timeline next.players s in
    let g = good_more settings game log event l a in
    let up : settled core ≤ settled next = settled_onward core next g.1.0 g.0.root (staying next.players g.1.1.stays g.1.1.has_local) in
    let top : settled next ≤ until next = (depth_is next (until next) g.1.1.root).0 in
    let here : In T (kept core) = subst (λ (q : Rows). In q (kept core)) (sym same) (has_in (kept core) (timeline core.players s) (settled_kept settings core g.0)) in
    let still : In T (from_start T ps) = subst (In T) (sym e) (filter_in (is_possible next.players) T all (in_left T (kept core) (added_by core event.entry) here) (time_possible next.players s)) in
    let far : settled next ≡ s + newly next s ps = settled_more settings game log event l a ∙ longest_settles next s all ps (omega arith) e (start_root T ps still) in
    record {
      reached = omega arith;
      settled_is = far;
      kept_is = sym (kept_more settings game log event l a ∙ live_settle next s (newly next s ps) all ps far e (long_more settings game log event l a));
    }
