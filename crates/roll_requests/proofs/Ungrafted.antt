-- How many states a session keeps that took in no branch.
use Rattle.std.proofs.Common.{◌≡◌, ℕ, ◌+◌, ◌-◌, ◌<◌, ◌≤◌, List, [], ◌∷◌, length, refl, ap, sym, ◌∙◌, Bool, true, false, arith, subst, inl, inr, min, length-take, None}
use Rattle.std.specs.Prelude.{◌⊎◌, ◌==◌, ◌&&◌, filter, nat_le, if◌then◌else◌}
use Rattle.std.proofs.lemmas.Bool.{and_parts, cases_Bool, cases_lt, eqb-true, false≢true, leb-true, not-false, or_cases, or_parts}
use Rattle.roll_frame.specs.Cells.{Rows, rows_eq}
use Rattle.roll_frame.specs.Impls.Equal.{rows_eq-Decides}
use Rattle.roll_frame.specs.Core.{Core, cost, depth, first_core, is_live, is_possible, kept, rolled_paths, settled}
use Rattle.roll_frame.specs.Events.{CoreEvent, added_by, after, all_given, applied, can_be_partial, log_from, log_of, played, played_from, tests_of}
use Rattle.roll_frame.specs.Games.{Game, Value}
use Rattle.roll_frame.specs.Paths.{prefixes}
use Rattle.roll_frame.specs.Settings.{start_refusal}
use Rattle.roll_frame.specs.Timeline.{timeline}
use Rattle.roll_frame.specs.declared.entry.Entry.{Entry}
use Rattle.roll_frame.specs.declared.entry.Entry.TheVariants.{Local, Remote, Disconnect, Sync, Advance, Graft, Partial}
use Rattle.roll_frame.specs.declared.settings.Settings.{Settings}
use Rattle.roll_frame.proofs.Refused.{AllFail}
use Rattle.roll_frame.proofs.Timelines.{length_timeline}
use Rattle.roll_laws.proofs.Accepted.{Outcome, after_log}
use Rattle.roll_laws.proofs.Ahead.{fits_before}
use Rattle.roll_laws.proofs.Counting.{Distinct, distinct_filter, distinct_short, filter_takes, filter_skips}
use Rattle.roll_laws.proofs.Few.{length_prefixes, saved_once}
use Rattle.roll_laws.proofs.Fronts.{Onward, depth_at_least, depth_is, settled_is}
use Rattle.roll_laws.proofs.Known.{OnTime, fits, possible_from_fits}
use Rattle.roll_laws.proofs.KeptPaths.{rolled_on_time, time_stays}
use Rattle.roll_laws.proofs.Prefixes.{Closed, filter_in, in_filter, in_prefixes, prefixes_in}
use Rattle.roll_laws.proofs.Saved.{In, in_either, on_time_is, take_timeline}
use Rattle.roll_laws.proofs.Sound.{Sound, first_sound, sound_played, step}
use Rattle.roll_requests.specs.Sufficing.{has_graft, is_graft}

-- what is possible of the saved paths is the timeline's, and none ends past the next frame
record Straight (core : Core) : Type 0 where
  pub on_time : (q : Rows) → In q core.ever → is_possible core.players q ≡ true → OnTime 0 core.players q
  pub short : (q : Rows) → In q core.ever → length q ≤ core.frame + 1

rolled_is : (core : Core) (m j : ℕ) (q : Rows) → m ≤ core.frame + 1 → In q (rolled_paths core m j) → OnTime 0 core.players q × (length q ≤ core.frame + 1)
rolled_is core m j q low i =
    let r = in_prefixes q (timeline core.players m) (depth core m) j i in
    let n : ℕ = r.0 in
    let long : length q ≡ min n (length (timeline core.players m)) = ap length r.3 ∙ length-take n (timeline core.players m) in
    (rolled_on_time core m j q i, omega (arith, long, low, length_timeline core.players m))

partial_low : (core : Core) (to made : ℕ) → can_be_partial core to made ≡ true → to ≤ core.frame + 1
partial_low core to made h = go (or_cases (to == core.frame) _ (and_parts _ (nat_le made (cost core to)) h).0)
  where
    go : ((to == core.frame) ≡ true) ⊎ ((to == core.frame + 1 && all_given core.players) ≡ true) → to ≤ core.frame + 1
    go (inl e) = omega (arith, eqb-true to core.frame e)
    go (inr e) = omega (arith, eqb-true to (core.frame + 1) (and_parts (to == core.frame + 1) (all_given core.players) e).0)

-- so are the paths that an entry adds that is no graft
added_is : (settings : Settings) (game : Game) (core : Core) (from : Value) (entry : Entry) (q : Rows) → AllFail (tests_of settings game core from entry) → is_graft entry ≡ false → In q (added_by core entry) → OnTime 0 core.players q × (length q ≤ core.frame + 1)
added_is settings game core from (Local p word) q h e i = absurd i
added_is settings game core from (Remote p f word) q h e i = absurd i
added_is settings game core from (Disconnect p) q h e i = absurd i
added_is settings game core from Sync q h e i = rolled_is core core.frame (cost core core.frame) q (omega arith) i
added_is settings game core from Advance q h e i = rolled_is core (core.frame + 1) (cost core (core.frame + 1)) q (omega arith) i
added_is settings game core from (Graft ticket route) q h e i = absurd (false≢true (sym e))
added_is settings game core from (Partial to made) q h e i = rolled_is core to made q (partial_low core to made (not-false _ h.0)) i

straight_step : (settings : Settings) (game : Game) (core : Core) (from : Value) (entry : Entry) → Sound settings core → AllFail (tests_of settings game core from entry) → is_graft entry ≡ false → Straight core → Straight (applied core entry)
straight_step settings game core from entry s h e old =
    let new : Core = applied core entry in
    let o : Onward core new = (step settings game core from entry s h).0 in
    record {
      on_time = λ q i p. time_stays core.players new.players q o.players (on_time_of new o q p (in_either q core.ever (added_by core entry) i)) p;
      short = λ q i. short_of new o q (in_either q core.ever (added_by core entry) i);
    }
  where
    on_time_of : (new : Core) → Onward core new → (q : Rows) → is_possible new.players q ≡ true → In q core.ever ⊎ In q (added_by core entry) → OnTime 0 core.players q
    on_time_of new o q p (inl i) = old.on_time q i (possible_from_fits 0 core.players q (fits_before 0 core.players new.players q o.players (fits 0 new.players q p)))
    on_time_of new o q p (inr i) = (added_is settings game core from entry q h e i).0

    short_of : (new : Core) → Onward core new → (q : Rows) → In q core.ever ⊎ In q (added_by core entry) → length q ≤ new.frame + 1
    short_of new o q (inl i) = omega (arith, old.short q i, o.frame)
    short_of new o q (inr i) = omega (arith, (added_is settings game core from entry q h e i).1, o.frame)

straight_steps : (settings : Settings) (game : Game) (core : Core) (events : List CoreEvent) → Sound settings core → Straight core → has_graft (log_from settings game core events) ≡ false → Straight (played_from settings game core events)
straight_steps settings game core [] s h e = h
straight_steps settings game core (event ∷ events) s h e = go (after_log settings game core event) (λ sound straight none. straight_steps settings game (after settings game core event) events sound straight none)
  where
    logged : Bool → Bool
    logged b = has_graft (if b then event.entry ∷ log_from settings game (after settings game core event) events else log_from settings game (after settings game core event) events)

    go : Outcome settings game core event → (Sound settings (after settings game core event) → Straight (after settings game core event) → has_graft (log_from settings game (after settings game core event) events) ≡ false → Straight (played_from settings game core (event ∷ events))) → Straight (played_from settings game core (event ∷ events))
    go (inl a) rest = rest (subst (Sound settings) (sym a.0) s) (subst Straight (sym a.0) h) (sym (ap logged a.1) ∙ e)
    go (inr a) rest =
        let none = or_parts (is_graft event.entry) (has_graft (log_from settings game (after settings game core event) events)) (sym (ap logged a.2) ∙ e) in
        rest (subst (Sound settings) (sym a.1) (step settings game core event.value event.entry s a.0.0).1) (subst Straight (sym a.1) (straight_step settings game core event.value event.entry s a.0.0 none.0 h)) none.1

straight_first : (settings : Settings) → Straight (first_core settings)
straight_first settings = record { on_time = λ q i p. on_time q i; short = λ q i. short q i }
  where
    on_time : (q : Rows) → In q ([] ∷ []) → OnTime 0 (first_core settings).players q
    on_time q (inl e) = subst (OnTime 0 (first_core settings).players) (sym e) tt
    on_time q (inr i) = absurd i

    short : (q : Rows) → In q ([] ∷ []) → length q ≤ 1
    short q (inl e) = omega (arith, ap length e)
    short q (inr i) = absurd i

-- each path is there once
distinct_once : (xs : List Rows) → ((q : Rows) → length (filter (rows_eq q) xs) ≤ 1) → Distinct xs
distinct_once [] once = tt
distinct_once (x ∷ xs) once = (λ i. twice i, distinct_once xs (λ q. fewer q))
  where
    fewer : (q : Rows) → length (filter (rows_eq q) xs) ≤ 1
    fewer q = elim (cases_Bool (rows_eq q x)) [
      | inl e ↦ omega (arith, once q, ap length (filter_takes (rows_eq q) x xs e))
      | inr e ↦ omega (arith, once q, ap length (filter_skips (rows_eq q) x xs e))
    ]

    some_left : (ps : List Rows) → In x ps → 1 ≤ length ps
    some_left [] i = absurd i
    some_left (p ∷ ps) i = omega arith

    twice : In x xs → ⊥
    twice i =
        let same : rows_eq x x ≡ true = (rows_eq-Decides x x).1 refl in
        let there : 1 ≤ length (filter (rows_eq x) xs) = some_left (filter (rows_eq x) xs) (filter_in (rows_eq x) x xs i same) in
        absurd (omega (arith, once x, there, ap length (filter_takes (rows_eq x) x xs same)))

-- the rows from the settled frame on, up to a frame
line : Core → ℕ → List Rows
line core far = timeline core.players (settled core) ∷ prefixes (timeline core.players far) (settled core) (far - settled core)

line_in : (core : Core) (far n : ℕ) → settled core ≤ n → n ≤ far → In (timeline core.players n) (line core far)
unfolding line
line_in core far n low high = go (cases_lt (settled core) n)
  where
    go : (settled core < n) ⊎ (n ≤ settled core) → In (timeline core.players n) (line core far)
    go (inl past) = inr (subst (λ (q : Rows). In q (prefixes (timeline core.players far) (settled core) (far - settled core))) (take_timeline core.players n far high) (prefixes_in (timeline core.players far) (settled core) (far - settled core) n past (omega (arith, high))))
    go (inr first) = let same : n ≡ settled core = omega (arith, low, first) in inl (ap (timeline core.players) same)

line_length : (core : Core) (far : ℕ) → length (line core far) ≡ 1 + (far - settled core)
unfolding line
line_length core far = omega (arith, length_prefixes (timeline core.players far) (settled core) (far - settled core))

-- a roll to an earlier frame costs no more
cost_rises : (core : Core) (m : ℕ) → In [] core.ever → Closed core.ever → m ≤ core.frame + 1 → cost core m ≤ cost core (core.frame + 1)
cost_rises core m root closed low =
    let deep : ℕ = depth core (core.frame + 1) in
    let d = depth_is core (core.frame + 1) root in
    elim (cases_lt m deep) [
      | inl before ↦
          let there : In (timeline core.players m) core.ever = subst (λ (q : Rows). In q core.ever) (take_timeline core.players m deep (omega (arith, before))) (closed (timeline core.players deep) d.1 m) in
          omega (arith, depth_at_least core m m (omega arith) there)
      | inr past ↦ omega (arith, depth_at_least core m deep past d.1, low)
    ]

few : (settings : Settings) (core : Core) (m : ℕ) → Sound settings core → Straight core → Distinct core.ever → m ≤ core.frame + 1 → length (kept core) + cost core m ≤ settings.threshold + 2
few settings core m s h distinct low =
    let deep : ℕ = depth core (core.frame + 1) in
    let d = depth_is core (core.frame + 1) s.root in
    let base = settled_is core s.root in
    let least : settled core ≤ deep = depth_at_least core (core.frame + 1) (settled core) (omega (arith, base.0)) base.1 in
    let short : length (kept core) ≤ length (line core deep) =
    distinct_short (kept core) (line core deep) (distinct_filter (is_live (settled core) core.players) core.ever distinct)
    (λ q i.
    let f = in_filter (is_live (settled core) core.players) q core.ever i in
    let parts = and_parts (nat_le (settled core) (length q)) (is_possible core.players q) f.1 in
    let is : q ≡ timeline core.players (length q) = on_time_is core.players q (h.on_time q f.0 parts.1) in
    let high : length q ≤ deep = depth_at_least core (core.frame + 1) (length q) (h.short q f.0) (subst (λ (p : Rows). In p core.ever) is f.0) in
    subst (λ (p : Rows). In p (line core deep)) (sym is) (line_in core deep (length q) (leb-true (settled core) (length q) parts.0) high)) in
    omega (arith, short, line_length core deep, least, d.0, s.lag, cost_rises core m s.root s.closed low)

-- of a session that took in no branch: what it keeps, and what a roll to the frame or the next one adds, are the threshold and two
-- at most
pub few_ungrafted : (settings : Settings) (game : Game) (events : List CoreEvent) (m : ℕ) → start_refusal settings ≡ None → has_graft (log_of settings game events) ≡ false → m ≤ (played settings game events).frame + 1
    → length (kept (played settings game events)) + cost (played settings game events) m ≤ settings.threshold + 2
few_ungrafted settings game events m starts none low =
    few settings (played settings game events) m (sound_played settings game events starts)
    (straight_steps settings game (first_core settings) events (first_sound settings starts) (straight_first settings) none)
    (distinct_once (played settings game events).ever (saved_once settings game events starts)) low
