-- What holds of every core that events lead to.
use Rattle.std.proofs.Common.{◌≡◌, ℕ, zero, suc, ◌+◌, ◌-◌, ◌<◌, ◌≤◌, List, [], ◌∷◌, ◌++◌, length, refl, ap, sym, ◌∙◌, Bool, true, false, arith, take, subst, inl, inr, map, min, Option, None}
use Rattle.std.specs.Prelude.{◌⊎◌, not, ◌&&◌}
use Rattle.std.specs.List.{list_any}
use Rattle.std.proofs.lemmas.Bool.{false≢true, cases_Bool, cases_lt, not-false, not-true, not_from_false, and_parts, and_from, or_cases, or_parts}
use Rattle.roll_frame.specs.Cells.{Rows}
use Rattle.roll_frame.specs.Core.{Roll, Core, first_core, is_possible, settled, kept, is_live, depth, cost, rolled_paths}
use Rattle.roll_frame.specs.Events.{CoreEvent, all_given, tests_of, added_by, applied, after, played_from, played}
use Rattle.roll_frame.specs.Games.{Game, Value}
use Rattle.roll_frame.specs.Grafts.{Branch, whole_of, anchor_length, anchor, new_paths}
use Rattle.roll_frame.specs.Inputs.{changed, with_none_given}
use Rattle.roll_frame.specs.Paths.{prefixes, contains}
use Rattle.roll_frame.specs.Settings.{first_player, first_players, start_tests, start_refusal, is_local, places}
use Rattle.roll_frame.specs.Timeline.{Player, front, timeline}
use Rattle.roll_frame.specs.declared.entry.Entry.{Entry}
use Rattle.roll_frame.specs.declared.settings.Settings.{Settings}
use Rattle.roll_frame.proofs.Timelines.{timeline_none_given}
use Rattle.roll_frame.proofs.Refused.{AllFail, all_fail}
use Rattle.roll_laws.proofs.Known.{Fits, fits, possible_from_fits}
use Rattle.roll_laws.proofs.Ahead.{AllLater, all_later_same}
use Rattle.roll_laws.proofs.Saved.{In, in_left, in_right, has_in, take_timeline}
use Rattle.roll_laws.proofs.Fronts.{HasStaying, front_later, depth_is, depth_at_least, Onward, onward_same, onward_trans, settled_onward}
use Rattle.roll_laws.proofs.Accepted.{events_keep, Each, each_weaker, each_at, at_place, changed_later, changed_each, later_none_given}
use Rattle.roll_laws.proofs.Effects.{Stays, Moves, rests, changes, begins, Adds, rolls, grafts, effect_of, told_by}
use Rattle.roll_laws.proofs.Prefixes.{in_prefixes, prefixes_in, in_filter, filter_in, Closed, closed_more, take_below}

abbrev pub HasLocal : List Player → Type 0
HasLocal [] = ⊥
HasLocal (p ∷ ps) = (p.local ≡ true) ⊎ HasLocal ps

-- where a local player has given its word, the frame is below the threshold
abbrev pub Paced : Settings → Core → Player → Type 0
Paced settings core p = p.given ≡ true → core.frame < front core.players + settings.threshold

pub record Sound (settings : Settings) (core : Core) : Type 0 where
  pub stays : Each Stays core.players
  pub has_local : HasLocal core.players
  pub root : In [] core.ever
  pub closed : Closed core.ever
  pub pace : core.frame ≤ front core.players + settings.threshold
  pub given : Each (Paced settings core) core.players
  pub lag : core.frame ≤ settled core + settings.threshold

has_local_later : (olds news : List Player) → AllLater olds news → HasLocal olds → HasLocal news
has_local_later [] news l h = absurd h
has_local_later (x ∷ xs) [] l h = absurd l
has_local_later (x ∷ xs) (y ∷ ys) l (inl e) = inl (l.0.same_local ∙ e)
has_local_later (x ∷ xs) (y ∷ ys) l (inr h) = inr (has_local_later xs ys l.1 h)

pub staying : (ps : List Player) → Each Stays ps → HasLocal ps → HasStaying ps
staying [] s h = absurd h
staying (p ∷ ps) s (inl e) = inl (s.0 e)
staying (p ∷ ps) s (inr h) = inr (staying ps s.1 h)

abbrev pub Good : Settings → Core → Core → Type 0
Good settings old new = Onward old new × Sound settings new

-- the core with these players, at this frame, and with these paths added
abbrev moved : Core → List Player → ℕ → List Rows → Option Rows → Option Roll → Core
moved core players frame more shown last = record { players = players; frame = frame; ever = core.ever ++ more; shown = shown; last = last; logged = core.logged + 1 }

-- an event that leaves the frame
frame_good : (settings : Settings) (core : Core) (players : List Player) (more : List Rows) (shown : Option Rows) (last : Option Roll)
    → Sound settings core → Closed (core.ever ++ more) → AllLater core.players players → Each Stays players → Each (Paced settings core) players
    → Good settings core (moved core players core.frame more shown last)
frame_good settings core players more shown last s closed later stays given =
    let new : Core = moved core players core.frame more shown last in
    let o : Onward core new = record { players = later; ever = λ q h. in_left q core.ever more h; frame = omega arith } in
    let has : HasLocal players = has_local_later core.players players later s.has_local in
    let stay : HasStaying players = staying players stays has in
    let up : front core.players ≤ front players = front_later core.players players later stay in (
      o,
      record {
        stays = stays;
        has_local = has;
        root = in_left [] core.ever more s.root;
        closed = closed;
        pace = omega (arith, s.pace);
        given = each_weaker (Paced settings core) (Paced settings new) players (λ p f g. let below : core.frame < front core.players + settings.threshold = f g in omega arith) given;
        lag = omega (arith, s.lag, settled_onward core new o s.root stay);
      },
    )

-- the paths that a roll adds are the timeline's, from where it starts on
pub rolled_closed : (core : Core) (m j : ℕ) → In [] core.ever → Closed core.ever → Closed (core.ever ++ rolled_paths core m j)
rolled_closed core m j root closed =
    let d = depth_is core m root in
    let anchored : In (take (depth core m) (timeline core.players m)) core.ever = subst (λ (q : Rows). In q core.ever) (sym (take_timeline core.players (depth core m) m d.0)) d.1 in
    closed_more core.ever (rolled_paths core m j) (timeline core.players m) (depth core m) closed anchored
    (λ p i. let r = in_prefixes p (timeline core.players m) (depth core m) j i in
    (r.0, r.1, r.3, λ n a b. in_right (take n (timeline core.players m)) core.ever (rolled_paths core m j) (prefixes_in (timeline core.players m) (depth core m) j n a (omega (arith, r.2)))))

-- after a roll to m all the first m rows' prefixes are saved
pub rolled_in : (core : Core) (m k : ℕ) → In [] core.ever → Closed core.ever → k ≤ m → In (timeline core.players k) (core.ever ++ rolled_paths core m (cost core m))
rolled_in core m k root closed l = go (cases_lt (depth core m) k)
  where
    go : (depth core m < k) ⊎ (k ≤ depth core m) → In (timeline core.players k) (core.ever ++ rolled_paths core m (cost core m))
    go (inl b) =
        subst (λ (q : Rows). In q (core.ever ++ rolled_paths core m (cost core m))) (take_timeline core.players k m l)
        (in_right (take k (timeline core.players m)) core.ever (rolled_paths core m (cost core m)) (prefixes_in (timeline core.players m) (depth core m) (cost core m) k b (omega arith)))
    go (inr b) =
        in_left (timeline core.players k) core.ever (rolled_paths core m (cost core m))
        (subst (λ (q : Rows). In q core.ever) (take_timeline core.players k (depth core m) b) (closed (timeline core.players (depth core m)) (depth_is core m root).1 k))

pub fits_take : (t n : ℕ) (ps : List Player) (q : Rows) → Fits t ps q → Fits t ps (take n q)
fits_take t zero ps q h = tt
fits_take t (suc n) ps [] h = tt
fits_take t (suc n) ps (row ∷ rows) h = (h.0, fits_take (suc t) n ps rows h.1)

pub possible_take : (n : ℕ) (ps : List Player) (q : Rows) → is_possible ps q ≡ true → is_possible ps (take n q) ≡ true
possible_take n ps q h = possible_from_fits 0 ps (take n q) (fits_take 0 n ps q (fits 0 ps q h))

pub in_kept : (core : Core) (q : Rows) → In q (kept core) → In q core.ever
in_kept core q h = (in_filter (is_live (settled core) core.players) q core.ever h).0

grafted_closed : (core : Core) (branch : Branch) → Closed core.ever → contains (kept core) (anchor core branch) ≡ true → Closed (core.ever ++ new_paths core branch)
grafted_closed core branch closed kept_one =
    closed_more core.ever (new_paths core branch) (whole_of core branch) (anchor_length core branch) closed (in_kept core (anchor core branch) (has_in (kept core) (anchor core branch) kept_one)) each
  where
    each : (p : Rows) → In p (new_paths core branch) → (i : ℕ) × (anchor_length core branch < i) × (p ≡ take i (whole_of core branch)) × ((j : ℕ) → anchor_length core branch < j → j ≤ i → In (take j (whole_of core branch)) (core.ever ++ new_paths core branch))
    each p h =
        let w = whole_of core branch in
        let b = anchor_length core branch in
        let f = in_filter (λ q. is_possible core.players q && not (contains (kept core) q)) p (prefixes w b (length w - b)) h in
        let r = in_prefixes p w b (length w - b) f.0 in
        let possible : is_possible core.players (take r.0 w) ≡ true = subst (λ (q : Rows). is_possible core.players q ≡ true) r.3 (and_parts (is_possible core.players p) (not (contains (kept core) p)) f.1).0 in
        (r.0, r.1, r.3, λ j l m. between j (subst (λ (q : Rows). is_possible core.players q ≡ true) (take_below w j r.0 m) (possible_take j core.players (take r.0 w) possible)) (prefixes_in w b (length w - b) j l (omega (arith, r.2))) (cases_Bool (contains (kept core) (take j w))))
      where
        between : (j : ℕ) → is_possible core.players (take j (whole_of core branch)) ≡ true → In (take j (whole_of core branch)) (prefixes (whole_of core branch) (anchor_length core branch) (length (whole_of core branch) - anchor_length core branch)) → (contains (kept core) (take j (whole_of core branch)) ≡ true) ⊎ (contains (kept core) (take j (whole_of core branch)) ≡ false) → In (take j (whole_of core branch)) (core.ever ++ new_paths core branch)
        between j o i (inl k) = in_left (take j (whole_of core branch)) core.ever (new_paths core branch) (in_kept core (take j (whole_of core branch)) (has_in (kept core) (take j (whole_of core branch)) k))
        between j o i (inr k) =
            in_right (take j (whole_of core branch)) core.ever (new_paths core branch)
            (filter_in (λ q. is_possible core.players q && not (contains (kept core) q)) (take j (whole_of core branch)) (prefixes (whole_of core branch) (anchor_length core branch) (length (whole_of core branch) - anchor_length core branch)) i
            (and_from (is_possible core.players (take j (whole_of core branch))) (not (contains (kept core) (take j (whole_of core branch)))) o (not_from_false (contains (kept core) (take j (whole_of core branch))) k)))

-- what holds if any player's word was given, where each local player has given its word
pub local_given : (P : Type 0) (ps : List Player) → HasLocal ps → all_given ps ≡ true
    → Each (λ p. p.given ≡ true → P) ps → P
local_given P ps has all given = go ps has (not-true (list_any (λ player. player.local && not player.given) ps) all) given
  where
    go : (ps : List Player) → HasLocal ps → list_any (λ player. player.local && not player.given) ps ≡ false → Each (λ p. p.given ≡ true → P) ps → P
    go [] h a g = absurd h
    go (p ∷ ps) (inl e) a g = g.0 (has_given p.local p.given e (or_parts (p.local && not p.given) _ a).0)
      where
        has_given : (l v : Bool) → l ≡ true → (l && not v) ≡ false → v ≡ true
        has_given true true x y = refl
        has_given true false x y = absurd (false≢true (sym y))
        has_given false v x y = absurd (false≢true x)
    go (p ∷ ps) (inr h) a g = go ps h (or_parts (p.local && not p.given) _ a).1 g.1

pub none_given : (P : Player → Type 0) (ps : List Player) → ((p : Player) → P (with_none_given p)) → Each P (map with_none_given ps)
none_given P [] f = tt
none_given P (p ∷ ps) f = (f p, none_given P ps f)

none_given_stays : (ps : List Player) → Each Stays ps → Each Stays (map with_none_given ps)
none_given_stays [] h = tt
none_given_stays (p ∷ ps) h = (h.0, none_given_stays ps h.1)

-- an event by which the next frame begins
next_good : (settings : Settings) (core : Core) (shown : Option Rows) (last : Option Roll) → Sound settings core → all_given core.players ≡ true
    → Good settings core (moved core (map with_none_given core.players) (core.frame + 1) (rolled_paths core (core.frame + 1) (cost core (core.frame + 1))) shown last)
next_good settings core shown last s all =
    let more : List Rows = rolled_paths core (core.frame + 1) (cost core (core.frame + 1)) in
    let new : Core = moved core (map with_none_given core.players) (core.frame + 1) more shown last in
    let l : AllLater core.players new.players = later_none_given core.players in
    let stays : Each Stays new.players = none_given_stays core.players s.stays in
    let has : HasLocal new.players = has_local_later core.players new.players l s.has_local in
    let up : front core.players ≤ front new.players = front_later core.players new.players l (staying new.players stays has) in
    let below : core.frame < front core.players + settings.threshold = local_given _ core.players s.has_local all s.given in
    let end : ℕ = min (front new.players) (core.frame + 1) in
    let saved : In (timeline new.players end) new.ever =
    subst (λ (q : Rows). In q new.ever) (sym (timeline_none_given core.players end)) (rolled_in core (core.frame + 1) end s.root s.closed (omega arith)) in
    let least : end ≤ settled new = depth_at_least new end end (omega arith) saved in (
      record { players = l; ever = λ q h. in_left q core.ever more h; frame = omega arith },
      record {
        stays = stays;
        has_local = has;
        root = in_left [] core.ever more s.root;
        closed = rolled_closed core (core.frame + 1) (cost core (core.frame + 1)) s.root s.closed;
        pace = omega arith;
        given = none_given (Paced settings new) core.players (λ p e. absurd (false≢true e));
        lag = omega arith;
      },
    )

added_closed : (settings : Settings) (core : Core) (more : List Rows) → Sound settings core → Adds settings core more → Closed (core.ever ++ more)
added_closed settings core more s (rolls to made high few) = rolled_closed core to made s.root s.closed
added_closed settings core more s (grafts branch short anchored room) = grafted_closed core branch s.closed anchored

moved_good : (settings : Settings) (core : Core) (players : List Player) (frame : ℕ) (more : List Rows) (told : Option (ℕ × ℕ))
    (shown : Option Rows) (last : Option Roll) → Sound settings core → Closed (core.ever ++ more)
    → Moves settings core players frame more told → Good settings core (moved core players frame more shown last)
moved_good settings core players frame more told shown last s closed (rests added) =
    frame_good settings core core.players more shown last s closed (all_later_same core.players) s.stays s.given
moved_good settings core players frame more told shown last s closed (changes change p x word e words plays) =
    let stays : Stays x = each_at Stays core.players (p - 1) x (at_place core.players p x e) s.stays in
    frame_good settings core (changed change core.players p) [] shown last s closed
    (changed_later change core.players p x e (plays.later stays))
    (changed_each Stays change core.players p x e plays.stays s.stays)
    (changed_each (Paced settings core) change core.players p x e
    (λ given g. elim (plays.given g) [ inl before ↦ given before | inr now ↦ now.0 ]) s.given)
moved_good settings core players frame more told shown last s closed (begins all) = next_good settings core shown last s all

-- each accepted event leads to a core that is sound and later
pub step : (settings : Settings) (game : Game) (core : Core) (from : Value) (entry : Entry) → Sound settings core → AllFail (tests_of settings game core from entry) → Good settings core (applied core entry)
step settings game core from entry s h =
    let new : Core = applied core entry in
    let e = effect_of settings game core from entry h in
    moved_good settings core new.players new.frame (added_by core entry) (told_by entry) new.shown new.last s
    (added_closed settings core (added_by core entry) s e.adds) e.moves

pub steps : (settings : Settings) (game : Game) (core : Core) (events : List CoreEvent) → Sound settings core → Good settings core (played_from settings game core events)
steps settings game core events s =
    events_keep settings game (Good settings core)
    (λ old event a good.
    let more = step settings game old event.value event.entry good.1 a.0 in
    (onward_trans core old (applied old event.entry) good.0 more.0, more.1))
    core events (onward_same core, s)

pub step_any : (settings : Settings) (game : Game) (core : Core) (event : CoreEvent) → Sound settings core → Good settings core (after settings game core event)
step_any settings game core event = steps settings game core (event ∷ [])

first_stays : (settings : Settings) (ps : List ℕ) → Each Stays (map (first_player settings) ps)
first_stays settings [] = tt
first_stays settings (p ∷ ps) = (λ l. refl, first_stays settings ps)

pub first_given : (P : Type 0) (settings : Settings) (ps : List ℕ) → Each (λ p. p.given ≡ true → P) (map (first_player settings) ps)
first_given P settings [] = tt
first_given P settings (p ∷ ps) = (λ g. absurd (false≢true g), first_given P settings ps)

first_local : (settings : Settings) (ps : List ℕ) → list_any (is_local settings) ps ≡ true → HasLocal (map (first_player settings) ps)
first_local settings [] e = false≢true e
first_local settings (p ∷ ps) e = go (or_cases (is_local settings p) (list_any (is_local settings) ps) e) (first_local settings ps)
  where
    go : (is_local settings p ≡ true) ⊎ (list_any (is_local settings) ps ≡ true) → (list_any (is_local settings) ps ≡ true → HasLocal (map (first_player settings) ps)) → HasLocal (map (first_player settings) (p ∷ ps))
    go (inl l) r = inl l
    go (inr l) r = inr (r l)

first_closed : Closed ([] ∷ [])
first_closed q (inl e) k = inl (ap (take k) e ∙ none k)
  where
    none : (n : ℕ) → ◌≡◌ {A = Rows} (take n []) []
    none zero = refl
    none (suc n) = refl
first_closed q (inr h) k = absurd h

pub first_sound : (settings : Settings) → start_refusal settings ≡ None → Sound settings (first_core settings)
first_sound settings h =
    let tests = all_fail (start_tests settings) h in
    record {
      stays = first_stays settings (places settings);
      has_local = first_local settings (places settings) (not-false _ tests.1.0);
      root = inl refl;
      closed = first_closed;
      pace = omega arith;
      given = first_given (0 < front (first_players settings) + settings.threshold) settings (places settings);
      lag = omega arith;
    }

-- any events lead to a sound core, and more events to a later one
pub sound_played : (settings : Settings) (game : Game) (events : List CoreEvent) → start_refusal settings ≡ None → Sound settings (played settings game events)
sound_played settings game events h = (steps settings game (first_core settings) events (first_sound settings h)).1

played_more : (settings : Settings) (game : Game) (core : Core) (events more : List CoreEvent) → played_from settings game core (events ++ more) ≡ played_from settings game (played_from settings game core events) more
played_more settings game core [] more = refl
played_more settings game core (event ∷ events) more = played_more settings game (after settings game core event) events more

pub onward_played : (settings : Settings) (game : Game) (events more : List CoreEvent) → start_refusal settings ≡ None → Onward (played settings game events) (played settings game (events ++ more))
onward_played settings game events more h =
    subst (Onward (played settings game events)) (sym (played_more settings game (first_core settings) events more))
    (steps settings game (played settings game events) more (sound_played settings game events h)).0
