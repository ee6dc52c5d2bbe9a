-- How many paths are kept: of those that don't begin the timeline up to the next frame no more than branches may fill.
use Rattle.std.proofs.Common.{None, ◌≡◌, ℕ, zero, suc, ◌+◌, ◌-◌, ◌<◌, ◌≤◌, List, [], ◌∷◌, ◌++◌, length, take, refl, ap, sym, ◌∙◌, Bool, true, false, arith, subst, inl, inr, min, length-take, length-append}
use Rattle.std.specs.Prelude.{◌⊎◌, not, filter, nat_le, nat_lt, ◌&&◌}
use Rattle.std.proofs.lemmas.Bool.{false≢true, cases_lt, not-true, and_parts, and_from, and_cases, leb-true, le-leb, ltb-false, not_from_false, false_from_ne_true}
use Rattle.std.proofs.lemmas.List.Elements.{filter-append}
use Rattle.roll_frame.specs.Cells.{rows_eq, Rows}
use Rattle.roll_frame.specs.Impls.Equal.{rows_eq-Decides}
use Rattle.roll_frame.specs.Core.{Core, first_core, is_possible, settled, kept, is_live, depth, cost, rolled_paths}
use Rattle.roll_frame.specs.Events.{CoreEvent, added_by, applied, played_from, played}
use Rattle.roll_frame.specs.Games.{Game}
use Rattle.roll_frame.specs.Grafts.{Branch, whole_of, anchor_length, new_paths}
use Rattle.roll_frame.specs.Paths.{prefixes, begins_with, contains}
use Rattle.roll_frame.specs.Settings.{open_to_branches, start_refusal}
use Rattle.roll_frame.specs.Timeline.{Player, timeline, front}
use Rattle.roll_frame.specs.declared.settings.Settings.{Settings}
use Rattle.roll_frame.proofs.Timelines.{length_timeline}
use Rattle.roll_laws.specs.Laws.{FewAreKept, RollsFit, SavedOnce}
use Rattle.roll_laws.proofs.Known.{fits, possible_from_fits, OnTime}
use Rattle.roll_laws.proofs.Ahead.{fits_before}
use Rattle.roll_laws.proofs.Saved.{In, in_has, in_either, take_timeline, on_time_is, time_begins, begins_on_time}
use Rattle.roll_laws.proofs.Fronts.{depth_at_least, depth_is, settled_is, Onward, settled_onward}
use Rattle.roll_laws.proofs.Accepted.{events_keep}
use Rattle.roll_laws.proofs.Effects.{is_full, Adds, rolls, grafts, effect_of}
use Rattle.roll_laws.proofs.Prefixes.{in_prefixes, in_filter, filter_in}
use Rattle.roll_laws.proofs.Counting.{filter_le, filter_short, filter_none, filter_parts, Distinct, distinct_append, distinct_filter, distinct_prefixes, distinct_short}
use Rattle.roll_laws.proofs.Starts.{starts_are_small, few_kept}
use Rattle.roll_laws.proofs.Sound.{Sound, staying, step, first_sound}
use Rattle.roll_laws.proofs.KeptPaths.{time_stays, rolled_on_time}

-- live, and not the timeline up to the next frame
abbrev pub is_far : Core → Rows → Bool
is_far core q = is_live (settled core) core.players q && not (begins_with (timeline core.players (core.frame + 1)) q)

pub record Few (settings : Settings) (core : Core) : Type 0 where
  pub distinct : Distinct core.ever
  pub far : length (filter (is_far core) core.ever) ≤ open_to_branches settings.profile

live_parts : (low : ℕ) (ps : List Player) (q : Rows) → is_live low ps q ≡ true → (low ≤ length q) × (is_possible ps q ≡ true)
live_parts low ps q e = let b = and_parts (nat_le low (length q)) (is_possible ps q) e in (leb-true low (length q) b.0, b.1)

pub live_before : (old new : Core) (q : Rows) → Onward old new → settled old ≤ settled new → is_live (settled new) new.players q ≡ true → is_live (settled old) old.players q ≡ true
live_before old new q o f e =
    let w = live_parts (settled new) new.players q e in
    and_from (nat_le (settled old) (length q)) (is_possible old.players q) (le-leb (settled old) (length q) (omega (arith, w.0)))
    (possible_from_fits 0 old.players q (fits_before 0 old.players new.players q o.players (fits 0 new.players q w.1)))

-- what began the timeline and is possible later, begins it later
begins_later : (old new : Core) (q : Rows) → Onward old new → is_possible new.players q ≡ true → begins_with (timeline old.players (old.frame + 1)) q ≡ true → begins_with (timeline new.players (new.frame + 1)) q ≡ true
begins_later old new q o p b =
    let t = begins_on_time old.players (old.frame + 1) q b in
    time_begins new.players (new.frame + 1) q (time_stays old.players new.players q o.players t.0 p) (omega (arith, o.frame, t.1))

far_parts : (core : Core) (q : Rows) → is_far core q ≡ true → (is_live (settled core) core.players q ≡ true) × (begins_with (timeline core.players (core.frame + 1)) q ≡ false)
far_parts core q e =
    let b = and_parts (is_live (settled core) core.players q) (not (begins_with (timeline core.players (core.frame + 1)) q)) e in
    (b.0, not-true (begins_with (timeline core.players (core.frame + 1)) q) b.1)

far_before : (old new : Core) (q : Rows) → Onward old new → settled old ≤ settled new → is_far new q ≡ true → is_far old q ≡ true
far_before old new q o f e =
    let p = far_parts new q e in
    and_from (is_live (settled old) old.players q) (not (begins_with (timeline old.players (old.frame + 1)) q)) (live_before old new q o f p.0)
    (not_from_false (begins_with (timeline old.players (old.frame + 1)) q)
    (false_from_ne_true (begins_with (timeline old.players (old.frame + 1)) q)
    (λ b. false≢true (sym p.1 ∙ begins_later old new q o (live_parts (settled new) new.players q p.0).1 b))))

number_append : (p : Rows → Bool) (xs ys : List Rows) → length (filter p (xs ++ ys)) ≡ length (filter p xs) + length (filter p ys)
number_append p xs ys = ap length (filter-append p xs ys) ∙ length-append (filter p xs) (filter p ys)

-- a path that a roll makes was not saved
rolled_new : (core : Core) (m j : ℕ) (q : Rows) → j ≤ cost core m → In q core.ever → In q (rolled_paths core m j) → ⊥
rolled_new core m j q l i h =
    let r = in_prefixes q (timeline core.players m) (depth core m) j h in
    let n : ℕ = r.0 in
    let up : n ≤ depth core m + j = r.2 in
    let low : depth core m < n = r.1 in
    let is : q ≡ timeline core.players n = r.3 ∙ take_timeline core.players n m (omega arith) in
    let least : n ≤ depth core m = depth_at_least core m n (omega arith) (subst (λ (p : Rows). In p core.ever) is i) in
    absurd (omega arith)

rolled_not_far : (old new : Core) (m j : ℕ) (q : Rows) → Onward old new → m ≤ old.frame + 1 → In q (rolled_paths old m j) → is_far new q ≡ true → ⊥
rolled_not_far old new m j q o l i e =
    let p = far_parts new q e in
    let r = in_prefixes q (timeline old.players m) (depth old m) j i in
    let n : ℕ = r.0 in
    let long : length q ≡ min n (length (timeline old.players m)) = ap length r.3 ∙ length-take n (timeline old.players m) in
    let b : begins_with (timeline old.players (old.frame + 1)) q ≡ true = time_begins old.players (old.frame + 1) q (rolled_on_time old m j q i) (omega (arith, length_timeline old.players m)) in
    false≢true (sym p.1 ∙ begins_later old new q o (live_parts (settled new) new.players q p.0).1 b)

few_rolled : (settings : Settings) (old new : Core) (m j : ℕ) → Few settings old → Onward old new → settled old ≤ settled new → m ≤ old.frame + 1 → j ≤ cost old m → new.ever ≡ old.ever ++ rolled_paths old m j → Few settings new
few_rolled settings old new m j few o f l k e =
    record {
      distinct = subst Distinct (sym e) (distinct_append old.ever (rolled_paths old m j) few.distinct
          (distinct_prefixes (timeline old.players m) (depth old m) j (omega (arith, length_timeline old.players m)))
          (λ q i h. rolled_new old m j q k i h));
      far = subst (λ (ps : List Rows). length (filter (is_far new) ps) ≤ open_to_branches settings.profile) (sym e) (omega (
        arith,
        few.far,
        number_append (is_far new) old.ever (rolled_paths old m j),
        filter_le (is_far new) (is_far old) old.ever (λ q i h. far_before old new q o f h),
        filter_none (is_far new) (rolled_paths old m j) (λ q i h. rolled_not_far old new m j q o l i h),
      ));
    }

-- a path that a graft makes is longer than the settled frame, possible, and was not saved
grafted_new : (core : Core) (branch : Branch) (q : Rows) → In q core.ever → In q (new_paths core branch) → ⊥
grafted_new core branch q i h =
    let w = whole_of core branch in
    let a = anchor_length core branch in
    let f = in_filter (λ p. is_possible core.players p && not (contains (kept core) p)) q (prefixes w a (length w - a)) h in
    let b = and_parts (is_possible core.players q) (not (contains (kept core) q)) f.1 in
    let r = in_prefixes q w a (length w - a) f.0 in
    let n : ℕ = r.0 in
    let up : n ≤ a + (length w - a) = r.2 in
    let low : a < n = r.1 in
    let long : length q ≡ min n (length w) = ap length r.3 ∙ length-take n w in
    let high : settled core ≤ a = omega arith in
    let here : contains (kept core) q ≡ true =
    in_has (kept core) q (filter_in (is_live (settled core) core.players) q core.ever i
    (and_from (nat_le (settled core) (length q)) (is_possible core.players q) (le-leb (settled core) (length q) (omega arith)) b.0)) in
    false≢true (sym (not-true (contains (kept core) q) b.1) ∙ here)

few_grafted : (settings : Settings) (old new : Core) (branch : Branch) → Few settings old → Onward old new → settled old ≤ settled new
    → is_full settings old branch ≡ false
    → new.ever ≡ old.ever ++ new_paths old branch → Few settings new
few_grafted settings old new branch few o f t e =
    record {
      distinct = subst Distinct (sym e) (distinct_append old.ever (new_paths old branch) few.distinct
          (distinct_filter (λ p. is_possible old.players p && not (contains (kept old) p)) (prefixes (whole_of old branch) (anchor_length old branch) (length (whole_of old branch) - anchor_length old branch))
          (distinct_prefixes (whole_of old branch) (anchor_length old branch) (length (whole_of old branch) - anchor_length old branch) (omega arith)))
          (λ q i h. grafted_new old branch q i h));
      far = subst (λ (ps : List Rows). length (filter (is_far new) ps) ≤ open_to_branches settings.profile) (sym e) (go (and_cases (nat_lt 0 (length (new_paths old branch))) (nat_lt (open_to_branches settings.profile) (length (kept old) + length (new_paths old branch))) t));
    }
  where
    split : length (filter (is_far new) (old.ever ++ new_paths old branch)) ≡ length (filter (is_far new) old.ever) + length (filter (is_far new) (new_paths old branch))
    split = number_append (is_far new) old.ever (new_paths old branch)

    short : length (filter (is_far new) (new_paths old branch)) ≤ length (new_paths old branch)
    short = filter_short (is_far new) (new_paths old branch)

    go : (nat_lt 0 (length (new_paths old branch)) ≡ false) ⊎ (nat_lt (open_to_branches settings.profile) (length (kept old) + length (new_paths old branch)) ≡ false)
        → length (filter (is_far new) (old.ever ++ new_paths old branch)) ≤ open_to_branches settings.profile
    go (inl z) = omega (arith, split, short, few.far, ltb-false 0 (length (new_paths old branch)) z, filter_le (is_far new) (is_far old) old.ever (λ q i h. far_before old new q o f h))
    go (inr z) = omega (
      arith,
      split,
      short,
      ltb-false (open_to_branches settings.profile) (length (kept old) + length (new_paths old branch)) z,
      filter_le (is_far new) (is_live (settled old) old.players) old.ever (λ q i h. live_before old new q o f (far_parts new q h).0),
    )

few_added : (settings : Settings) (core new : Core) (more : List Rows) → Few settings core → Onward core new → settled core ≤ settled new
    → new.ever ≡ core.ever ++ more → Adds settings core more → Few settings new
few_added settings core new more few o f e (rolls to made high cheap) = few_rolled settings core new to made few o f high cheap e
few_added settings core new more few o f e (grafts branch short anchored room) = few_grafted settings core new branch few o f room e

abbrev Both : Settings → Core → Type 0
Both settings core = Sound settings core × Few settings core

few_steps : (settings : Settings) (game : Game) (core : Core) (events : List CoreEvent) → Both settings core → Both settings (played_from settings game core events)
few_steps settings game =
    events_keep settings game (Both settings)
    (λ core event a b.
    let good = step settings game core event.value event.entry b.0 a.0 in
    let f : settled core ≤ settled (applied core event.entry) = settled_onward core (applied core event.entry) good.0 b.0.root (staying _ good.1.stays good.1.has_local) in
    let e = effect_of settings game core event.value event.entry a.0 in
    (good.1, few_added settings core (applied core event.entry) (added_by core event.entry) b.1 good.0 f refl e.adds))

-- k paths of the timeline, from one of n rows on
starts : List Player → ℕ → ℕ → List Rows
starts ps n zero = []
starts ps n (suc k) = timeline ps n ∷ starts ps (suc n) k

starts_length : (ps : List Player) (n k : ℕ) → length (starts ps n k) ≡ k
unfolding starts
starts_length ps n zero = refl
starts_length ps n (suc k) = ap suc (starts_length ps (suc n) k)

starts_in : (ps : List Player) (n k i : ℕ) → n ≤ i → i < n + k → In (timeline ps i) (starts ps n k)
unfolding starts
starts_in ps n zero i a b = absurd (omega arith)
starts_in ps n (suc k) i a b = go (cases_lt n i) (λ c. starts_in ps (suc n) k i c (omega arith))
  where
    go : (n < i) ⊎ (i ≤ n) → (suc n ≤ i → In (timeline ps i) (starts ps (suc n) k)) → In (timeline ps i) (timeline ps n ∷ starts ps (suc n) k)
    go (inl l) r = inr (r l)
    go (inr l) r = let e : i ≡ n = omega arith in inl (ap (timeline ps) e)

-- the kept paths that begin the timeline up to the next frame have different lengths
near_few : (settings : Settings) (core : Core) → Both settings core → length (filter (λ q. is_live (settled core) core.players q && begins_with (timeline core.players (core.frame + 1)) q) core.ever) ≤ settings.threshold + 2
near_few settings core b =
    let near : Rows → Bool = λ q. is_live (settled core) core.players q && begins_with (timeline core.players (core.frame + 1)) q in
    let room : ℕ = settings.threshold + 2 in
    let short : length (filter near core.ever) ≤ length (starts core.players (settled core) room) =
    distinct_short (filter near core.ever) (starts core.players (settled core) room) (distinct_filter near core.ever b.1.distinct)
    (λ q i.
    let f = in_filter near q core.ever i in
    let parts = and_parts (is_live (settled core) core.players q) (begins_with (timeline core.players (core.frame + 1)) q) f.1 in
    let w = live_parts (settled core) core.players q parts.0 in
    let t = begins_on_time core.players (core.frame + 1) q parts.1 in
    subst (λ (p : Rows). In p (starts core.players (settled core) room)) (sym (on_time_is core.players q t.0))
    (starts_in core.players (settled core) room (length q) w.0 (omega (arith, t.1, b.0.lag)))) in
    omega (arith, short, starts_length core.players (settled core) room)

kept_few : (settings : Settings) (core : Core) → Both settings core → length (kept core) ≤ open_to_branches settings.profile + settings.threshold + 2
kept_few settings core b =
    omega (
      arith,
      b.1.far,
      near_few settings core b,
      filter_parts (is_live (settled core) core.players) (begins_with (timeline core.players (core.frame + 1))) core.ever,
    )

first_far : (settings : Settings) → length (filter (is_far (first_core settings)) (first_core settings).ever) ≡ 0
first_far settings = filter_none (is_far (first_core settings)) ([] ∷ []) none
  where
    none : (q : Rows) → In q ([] ∷ []) → is_far (first_core settings) q ≡ true → ⊥
    none q (inr i) e = i
    none q (inl s) e =
        let p = far_parts (first_core settings) q e in
        let b : begins_with (timeline (first_core settings).players 1) q ≡ true = time_begins (first_core settings).players 1 q (subst (OnTime 0 (first_core settings).players) (sym s) tt) (omega (arith, ap length s)) in
        false≢true (sym p.1 ∙ b)

few_played : (settings : Settings) (game : Game) (events : List CoreEvent) → start_refusal settings ≡ None → Both settings (played settings game events)
few_played settings game events h = few_steps settings game (first_core settings) events (first_sound settings h, record { distinct = (λ i. i, tt); far = omega (arith, first_far settings) })

pub few_are_kept : FewAreKept
few_are_kept settings game events h =
    let few = kept_few settings (played settings game events) (few_played settings game events h) in
    (few, omega (arith, few, (starts_are_small settings h).few_kept))

is_near : Core → Rows → Bool
is_near core q = is_live (settled core) core.players q && begins_with (timeline core.players (core.frame + 1)) q

near_start : (settings : Settings) (core : Core) (q : Rows) → Both settings core → In q (filter (is_near core) core.ever) → In q (starts core.players (settled core) (settings.threshold + 2))
unfolding is_near
near_start settings core q b i =
    let f = in_filter (is_near core) q core.ever i in
    let parts = and_parts (is_live (settled core) core.players q) (begins_with (timeline core.players (core.frame + 1)) q) f.1 in
    let w = live_parts (settled core) core.players q parts.0 in
    let t = begins_on_time core.players (core.frame + 1) q parts.1 in
    subst (λ (p : Rows). In p (starts core.players (settled core) (settings.threshold + 2))) (sym (on_time_is core.players q t.0))
    (starts_in core.players (settled core) (settings.threshold + 2) (length q) w.0 (omega (arith, t.1, b.0.lag)))

rolled_start : (settings : Settings) (core : Core) (m : ℕ) (q : Rows) → Both settings core → settled core ≤ depth core m → m ≤ core.frame + 1 → In q (rolled_paths core m (cost core m)) → In q (starts core.players (settled core) (settings.threshold + 2))
rolled_start settings core m q b deep high i =
    let r = in_prefixes q (timeline core.players m) (depth core m) (cost core m) i in
    let n : ℕ = r.0 in
    let low : depth core m < n = r.1 in
    let up : n ≤ depth core m + cost core m = r.2 in
    let d : depth core m ≤ m = (depth_is core m b.0.root).0 in
    let is : q ≡ timeline core.players n = r.3 ∙ take_timeline core.players n m (omega arith) in
    subst (λ (p : Rows). In p (starts core.players (settled core) (settings.threshold + 2))) (sym is)
    (starts_in core.players (settled core) (settings.threshold + 2) n (omega arith) (omega (arith, b.0.lag)))

pub length_prefixes : (q : Rows) (d k : ℕ) → length (prefixes q d k) ≡ k
length_prefixes q d zero = refl
length_prefixes q d (suc k) = length-append (prefixes q d k) (take (d + suc k) q ∷ []) ∙ omega (arith, length_prefixes q d k)

rolls_fit_in : (settings : Settings) (core : Core) (m : ℕ) → Both settings core → core.frame ≤ m → m ≤ core.frame + 1 → length (kept core) + cost core m ≤ open_to_branches settings.profile + settings.threshold + 2
unfolding is_near
rolls_fit_in settings core m b low high =
    let old : List Rows = filter (is_near core) core.ever in
    let new : List Rows = rolled_paths core m (cost core m) in
    let root = settled_is core b.0.root in
    let bound : settled core ≤ min (front core.players) core.frame = root.0 in
    let deep : settled core ≤ depth core m = depth_at_least core m (settled core) (omega arith) root.1 in
    let short : length (old ++ new) ≤ length (starts core.players (settled core) (settings.threshold + 2)) =
    distinct_short (old ++ new) (starts core.players (settled core) (settings.threshold + 2))
    (distinct_append old new (distinct_filter (is_near core) core.ever b.1.distinct)
    (distinct_prefixes (timeline core.players m) (depth core m) (cost core m) (omega (arith, length_timeline core.players m)))
    (λ q i h. rolled_new core m (cost core m) q (omega arith) (in_filter (is_near core) q core.ever i).0 h))
    (λ q i. elim (in_either q old new i) [ inl h ↦ near_start settings core q b h | inr h ↦ rolled_start settings core m q b deep high h ]) in
    omega (
      arith,
      b.1.far,
      short,
      starts_length core.players (settled core) (settings.threshold + 2),
      length-append old new,
      length_prefixes (timeline core.players m) (depth core m) (cost core m),
      filter_parts (is_live (settled core) core.players) (begins_with (timeline core.players (core.frame + 1))) core.ever,
    )

pub rolls_fit : RollsFit
rolls_fit settings game events h m low high =
    let fit = rolls_fit_in settings (played settings game events) m (few_played settings game events h) low high in
    (fit, omega (arith, fit, few_kept settings h))

pub saved_once : SavedOnce
saved_once settings game events h path =
    let core : Core = played settings game events in
    distinct_short (filter (rows_eq path) core.ever) (path ∷ []) (distinct_filter (rows_eq path) core.ever (few_played settings game events h).1.distinct)
    (λ q i. inl (sym ((rows_eq-Decides path q).0 (in_filter (rows_eq path) q core.ever i).1)))
