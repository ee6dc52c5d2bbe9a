-- What is known, saved and kept, from what is sound and later.
use Rattle.std.proofs.Common.{◌≡◌, ℕ, zero, suc, ◌+◌, ◌<◌, ◌≤◌, List, [], ◌∷◌, ◌++◌, length, ap, sym, ◌∙◌, true, false, arith, take, subst, inl, inr, Some, None, length-take}
use Rattle.std.specs.Prelude.{◌⊎◌, nat_le, if◌then◌else◌}
use Rattle.std.proofs.lemmas.Bool.{false≢true, cases_Bool, cases_lt, false_from_ne_true, and_parts, and_from, leb-true, le-leb}
use Rattle.std.proofs.lemmas.List.{length-take-le}
use Rattle.roll_frame.specs.Cells.{Rows}
use Rattle.roll_frame.specs.Core.{Core, is_known, is_possible, settled, kept, is_live, depth, cost, rolled_paths}
use Rattle.roll_frame.specs.Events.{played}
use Rattle.roll_frame.specs.Paths.{contains}
use Rattle.roll_frame.specs.Timeline.{Player, cell_at, front, timeline}
use Rattle.roll_frame.specs.declared.row.Cell.{Cell}
use Rattle.roll_frame.specs.declared.settings.Settings.{Settings}
use Rattle.roll_frame.proofs.Timelines.{length_timeline}
use Rattle.roll_laws.specs.Laws.{known_cell, KnownCellsStay, SettledNeverFalls, SettledRowsStay, ImpossibleStays, PrefixesAreSaved, KeptBeginSettled, StartIsKept, RolledIsTimeOrDead, WindowIsBounded, CostIsSmall, KeptArePrefixed}
use Rattle.roll_laws.proofs.Known.{fits, possible_from_fits, OnTime, on_time_fits, fits_on_time}
use Rattle.roll_laws.proofs.Ahead.{AllLater, known_stays, fits_before}
use Rattle.roll_laws.proofs.Predicted.{all_steady_first, stays_on_time}
use Rattle.roll_laws.proofs.Saved.{In, has_in, in_has, take_timeline, on_time_is, timeline_on_time}
use Rattle.roll_laws.proofs.Fronts.{depth_is, depth_at_least, settled_is, settled_onward, timeline_stays, known_below_front}
use Rattle.roll_laws.proofs.Prefixes.{in_prefixes, in_filter, filter_in}
use Rattle.roll_laws.proofs.Sound.{Sound, sound_played, onward_played, staying, fits_take}

known_cell_later : (olds news : List Player) (place t : ℕ) (cell : Cell) → AllLater olds news → known_cell olds place t ≡ Some cell → known_cell news place t ≡ Some cell
known_cell_later [] news place t cell l e = let no : None ≡ Some cell = e in absurd (cc no)
known_cell_later (x ∷ xs) [] place t cell l e = absurd l
known_cell_later (x ∷ xs) (y ∷ ys) zero t cell l e = go (cases_Bool (is_known t x))
  where
    go : (is_known t x ≡ true) ⊎ (is_known t x ≡ false) → known_cell (y ∷ ys) zero t ≡ Some cell
    go (inr k) = let no : None ≡ Some cell = ap (λ b. if b then Some (cell_at t x) else None) (sym k) ∙ e in absurd (cc no)
    go (inl k) =
        let s = known_stays t x y l.0 k in
        ap (λ b. if b then Some (cell_at t y) else None) s.0 ∙ ap Some s.1 ∙ ap (λ b. if b then Some (cell_at t x) else None) (sym k) ∙ e
known_cell_later (x ∷ xs) (y ∷ ys) (suc place) t cell l e = known_cell_later xs ys place t cell l.1 e

pub known_cells_stay : KnownCellsStay
known_cells_stay settings game events more h place t cell e = known_cell_later _ _ place t cell (onward_played settings game events more h).players e

pub settled_never_falls : SettledNeverFalls
settled_never_falls settings game events more h =
    let old = sound_played settings game events h in
    let new = sound_played settings game (events ++ more) h in
    settled_onward _ _ (onward_played settings game events more h) old.root (staying _ new.stays new.has_local)

pub settled_rows_stay : SettledRowsStay
settled_rows_stay settings game events more h =
    let core : Core = played settings game events in
    let onward = onward_played settings game events more h in
    let low = (settled_is core (sound_played settings game events h).root).0 in
    timeline_stays (settled core) core.players (played settings game (events ++ more)).players onward.players (omega (arith, low))

impossible_later : (olds news : List Player) (q : Rows) → AllLater olds news → is_possible olds q ≡ false → is_possible news q ≡ false
impossible_later olds news q l e = false_from_ne_true (is_possible news q) (λ p. false≢true (sym e ∙ possible_from_fits 0 olds q (fits_before 0 olds news q l (fits 0 news q p))))

pub impossible_stays : ImpossibleStays
impossible_stays settings game events more h path e = impossible_later _ _ path (onward_played settings game events more h).players e

pub prefixes_are_saved : PrefixesAreSaved
prefixes_are_saved settings game events h path k e =
    let s = sound_played settings game events h in
    in_has _ (take k path) (s.closed path (has_in _ path e) k)

pub live : (core : Core) (q : Rows) → contains (kept core) q ≡ true → In q core.ever × (settled core ≤ length q) × (is_possible core.players q ≡ true)
live core q e =
    let f = in_filter (is_live (settled core) core.players) q core.ever (has_in (kept core) q e) in
    let b = and_parts (nat_le (settled core) (length q)) (is_possible core.players q) f.1 in
    (f.0, leb-true (settled core) (length q) b.0, b.1)

pub possible_settled : (ps : List Player) (k : ℕ) (q : Rows) → is_possible ps q ≡ true → k ≤ front ps → k ≤ length q → take k q ≡ timeline ps k
possible_settled ps k q p l n =
    let on : OnTime 0 ps (take k q) = fits_on_time 0 k ps q (λ s a b. known_below_front s ps (omega arith)) (fits 0 ps q p) in
    let e = on_time_is ps (take k q) on in
    let long : length (take k q) ≡ k = length-take-le k q n in
    e ∙ ap (timeline ps) long

pub kept_settled : (settings : Settings) (core : Core) (path : Rows) → Sound settings core → contains (kept core) path ≡ true → take (settled core) path ≡ timeline core.players (settled core)
kept_settled settings core path s e =
    let w = live core path e in
    let f = settled_is core s.root in
    possible_settled core.players (settled core) path w.2 (omega (arith, f.0)) w.1

pub kept_begin_settled : KeptBeginSettled
kept_begin_settled settings game events h path e = kept_settled settings _ path (sound_played settings game events h) e

-- a saved path that is possible, and no shorter than the settled frame, is kept
pub live_kept : (core : Core) (q : Rows) → In q core.ever → settled core ≤ length q → is_possible core.players q ≡ true → contains (kept core) q ≡ true
live_kept core q i long possible =
    in_has (kept core) q (filter_in (is_live (settled core) core.players) q core.ever i (and_from (nat_le (settled core) (length q)) (is_possible core.players q) (le-leb (settled core) (length q) long) possible))

pub time_possible : (ps : List Player) (k : ℕ) → is_possible ps (timeline ps k) ≡ true
time_possible ps k = possible_from_fits 0 ps (timeline ps k) (on_time_fits 0 ps (timeline ps k) (timeline_on_time ps k))

pub settled_kept : (settings : Settings) (core : Core) → Sound settings core → contains (kept core) (timeline core.players (settled core)) ≡ true
settled_kept settings core s =
    live_kept core (timeline core.players (settled core)) (settled_is core s.root).1 (omega (arith, length_timeline core.players (settled core))) (time_possible core.players (settled core))

pub start_kept : (settings : Settings) (core : Core) (m : ℕ) → Sound settings core → core.frame ≤ m → contains (kept core) (timeline core.players (depth core m)) ≡ true
start_kept settings core m s l =
    let f = settled_is core s.root in
    let low : settled core ≤ depth core m = depth_at_least core m (settled core) (omega (arith, f.0)) f.1 in
    live_kept core (timeline core.players (depth core m)) (depth_is core m s.root).1 (omega (arith, length_timeline core.players (depth core m))) (time_possible core.players (depth core m))

pub kept_are_prefixed : KeptArePrefixed
kept_are_prefixed settings game events ok path k e l =
    let core : Core = played settings game events in
    let w = live core path e in
    live_kept core (take k path) ((sound_played settings game events ok).closed path w.0 k) (omega (arith, length-take k path, w.1))
    (possible_from_fits 0 core.players (take k path) (fits_take 0 k core.players path (fits 0 core.players path w.2)))

pub start_is_kept : StartIsKept
start_is_kept settings game events h m l = start_kept settings _ m (sound_played settings game events h) l

-- what was the timeline's is so still, or not possible
pub time_stays : (olds news : List Player) (q : Rows) → AllLater olds news → OnTime 0 olds q → is_possible news q ≡ true → OnTime 0 news q
time_stays olds news q l o p = stays_on_time 0 olds news q l (all_steady_first olds news l) o (fits 0 news q p)

pub on_time_take : (t k : ℕ) (ps : List Player) (q : Rows) → OnTime t ps q → OnTime t ps (take k q)
on_time_take t zero ps q h = tt
on_time_take t (suc k) ps [] h = tt
on_time_take t (suc k) ps (row ∷ rows) h = (h.0, on_time_take (suc t) k ps rows h.1)

pub rolled_on_time : (core : Core) (m j : ℕ) (q : Rows) → In q (rolled_paths core m j) → OnTime 0 core.players q
rolled_on_time core m j q i =
    let r = in_prefixes q (timeline core.players m) (depth core m) j i in
    subst (OnTime 0 core.players) (sym r.3) (on_time_take 0 r.0 core.players (timeline core.players m) (timeline_on_time core.players m))

pub rolled_is_time_or_dead : RolledIsTimeOrDead
rolled_is_time_or_dead settings game events more h m j path i p =
    on_time_is _ path (time_stays _ _ path (onward_played settings game events more h).players (rolled_on_time (played settings game events) m j path (has_in _ path i)) p)

pub window_is_bounded : WindowIsBounded
window_is_bounded settings game events h = (sound_played settings game events h).lag

pub cost_small : (settings : Settings) (core : Core) (m : ℕ) → Sound settings core → m ≤ core.frame + 1 → cost core m ≤ settings.threshold + 1
cost_small settings core m s l = go (cases_lt (settled core) m)
  where
    go : (settled core < m) ⊎ (m ≤ settled core) → cost core m ≤ settings.threshold + 1
    go (inl b) = let f = settled_is core s.root in let low : settled core ≤ depth core m = depth_at_least core m (settled core) (omega arith) f.1 in omega (arith, s.lag)
    go (inr b) =
        let f = settled_is core s.root in
        let i : In (timeline core.players m) core.ever = subst (λ (q : Rows). In q core.ever) (take_timeline core.players m (settled core) b) (s.closed (timeline core.players (settled core)) f.1 m) in
        let low : m ≤ depth core m = depth_at_least core m m (omega arith) i in
        omega arith

pub cost_is_small : CostIsSmall
cost_is_small settings game events h m l = cost_small settings _ m (sound_played settings game events h) l
