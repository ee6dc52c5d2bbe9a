-- What a roll adds to the paths that are held from the settled frame on.
use Rattle.std.proofs.Common.{◌≡◌, ℕ, zero, suc, ◌+◌, ◌-◌, ◌≤◌, List, [], ◌∷◌, ◌++◌, length, refl, ap, sym, ◌∙◌, Bool, true, arith, take, drop, subst, inl, inr, map}
use Rattle.std.specs.Prelude.{◌⊎◌, filter}
use Rattle.std.proofs.lemmas.List.{map-append}
use Rattle.std.proofs.Math.Seq.{take-append-add}
use Rattle.roll_frame.specs.Cells.{Rows}
use Rattle.roll_frame.specs.Core.{Core, row_possible, possible_from, is_possible, settled, kept, depth, rolled_paths}
use Rattle.roll_frame.specs.Events.{replay}
use Rattle.roll_frame.specs.Games.{Game}
use Rattle.roll_frame.specs.Inputs.{with_none_given}
use Rattle.roll_frame.specs.Paths.{longest, prefixes}
use Rattle.roll_frame.specs.Timeline.{Player, timeline}
use Rattle.roll_frame.specs.declared.entry.Entry.{Entry}
use Rattle.roll_frame.specs.declared.row.Cell.{Cell}
use Rattle.roll_frame.specs.declared.settings.Settings.{Settings}
use Rattle.roll_laws.specs.Sessions.{IsLog}
use Rattle.roll_laws.proofs.Counting.{filter_takes}
use Rattle.roll_laws.proofs.Fronts.{settled_is}
use Rattle.roll_laws.proofs.Glue.{always_holds}
use Rattle.roll_laws.proofs.Known.{possible_from_fits, on_time_fits}
use Rattle.roll_laws.proofs.KeptPaths.{live, settled_kept, rolled_on_time}
use Rattle.roll_laws.proofs.Least.{pruning_loses_nothing}
use Rattle.roll_laws.proofs.Saved.{In, in_either, has_in, in_has}
use Rattle.roll_laws.proofs.Sound.{Sound, sound_played}
use Rattle.roll_frame.proofs.Timelines.{length_timeline, timeline_none_given}
use Rattle.roll_session.specs.Standing.{rows_from, settled_rows, from_start}
use Rattle.roll_session.proofs.Rows.{longest_on, settled-rows_from}
use Rattle.roll_session.proofs.Settles.{start_root}

-- the rows up to a later frame, from the settled rows
settled_on : (core : Core) (m : ℕ) → settled core ≤ m → timeline core.players m ≡ settled_rows core ++ rows_from core.players (settled core) (m - settled core)
settled_on core m h =
    let place : settled core + (m - settled core) ≡ m = omega arith in
    sym (settled-rows_from core.players (settled core) (m - settled core) ∙ ap (timeline core.players) place)

settled_low : (settings : Settings) (core : Core) (m : ℕ) → Sound settings core → core.frame ≤ m → settled core ≤ m
settled_low settings core m sound l = let f = settled_is core sound.root in omega (arith, f.0)

start_on : (settings : Settings) (core : Core) (ps : List Rows) (m : ℕ) → Sound settings core → from_start (settled_rows core) ps ≡ kept core → core.frame ≤ m → longest (kept core) (timeline core.players m) ≡ depth core m
    → depth core m ≡ settled core + longest ps (rows_from core.players (settled core) (m - settled core))
start_on settings core ps m sound e l same =
    let T : Rows = settled_rows core in
    let R : Rows = rows_from core.players (settled core) (m - settled core) in
    let root : In [] ps = start_root T ps (subst (In T) (sym e) (has_in (kept core) T (settled_kept settings core sound))) in
    sym same
    ∙ ap (λ (qs : List Rows). longest qs (timeline core.players m)) (sym e)
    ∙ ap (longest (from_start T ps)) (settled_on core m (settled_low settings core m sound l))
    ∙ longest_on T ps R root
    ∙ ap (λ k. k + longest ps R) (length_timeline core.players (settled core))

-- where a roll starts: past the settled frame by the longest of the paths that are held
pub start_is : (settings : Settings) (game : Game) (log : List Entry) → IsLog settings game log
    → (ps : List Rows) → from_start (settled_rows (replay settings log)) ps ≡ kept (replay settings log)
    → (m : ℕ) → (replay settings log).frame ≤ m
    → depth (replay settings log) m ≡ settled (replay settings log) + longest ps (rows_from (replay settings log).players (settled (replay settings log)) (m - settled (replay settings log)))
start_is settings game log is_log ps e m l =
    start_on settings (replay settings log) ps m (always_holds Sound sound_played settings game log is_log) e l
    (always_holds (λ s core. (m : ℕ) → core.frame ≤ m → longest (kept core) (timeline core.players m) ≡ depth core m) pruning_loses_nothing settings game log is_log m l)

-- prefixes that go on from the same rows
pub prefixes_on : (T q : Rows) (d j : ℕ) → from_start T (prefixes q d j) ≡ prefixes (T ++ q) (length T + d) j
prefixes_on T q d zero = refl
prefixes_on T q d (suc j) =
    let place : length T + (d + suc j) ≡ length T + d + suc j = omega arith in
    let last : T ++ take (d + suc j) q ≡ take (length T + d + suc j) (T ++ q) = sym (take-append-add T q (d + suc j)) ∙ ap (λ k. take k (T ++ q)) place in
    map-append (λ r. T ++ r) (prefixes q d j) (take (d + suc j) q ∷ []) ∙ cc (prefixes_on T q d j, last)

-- what is held after the first j states of a roll
pub grown : (settings : Settings) (game : Game) (log : List Entry) → IsLog settings game log
    → (ps : List Rows) → from_start (settled_rows (replay settings log)) ps ≡ kept (replay settings log)
    → (m : ℕ) → (replay settings log).frame ≤ m → (j : ℕ)
    → from_start (settled_rows (replay settings log)) (ps ++ prefixes (rows_from (replay settings log).players (settled (replay settings log)) (m - settled (replay settings log))) (longest ps (rows_from (replay settings log).players (settled (replay settings log)) (m - settled (replay settings log)))) j)
    ≡ kept (replay settings log) ++ rolled_paths (replay settings log) m j
grown settings game log is_log ps e m l j =
    let core : Core = replay settings log in
    let T : Rows = settled_rows core in
    let R : Rows = rows_from core.players (settled core) (m - settled core) in
    let d : ℕ = longest ps R in
    let start : length T + d ≡ depth core m = ap (λ k. k + d) (length_timeline core.players (settled core)) ∙ sym (start_is settings game log is_log ps e m l) in
    let time : T ++ R ≡ timeline core.players m = sym (settled_on core m (settled_low settings core m (always_holds Sound sound_played settings game log is_log) l)) in
    let more : from_start T (prefixes R d j) ≡ rolled_paths core m j = prefixes_on T R d j ∙ ap (λ k. prefixes (T ++ R) k j) start ∙ ap (λ q. prefixes q (depth core m) j) time in
    map-append (λ r. T ++ r) ps (prefixes R d j) ∙ cc (e, more)

-- a test that all pass
pub filter_whole : (f : Rows → Bool) (ps : List Rows) → ((q : Rows) → In q ps → f q ≡ true) → filter f ps ≡ ps
filter_whole f [] h = refl
filter_whole f (x ∷ xs) h = filter_takes f x xs (h x (inl refl)) ∙ ap (λ ys. x ∷ ys) (filter_whole f xs (λ q i. h q (inr i)))

-- in the middle of a roll all that is held is possible
pub all_possible : (core : Core) (m j : ℕ) → filter (is_possible core.players) (kept core ++ rolled_paths core m j) ≡ kept core ++ rolled_paths core m j
all_possible core m j = filter_whole (is_possible core.players) (kept core ++ rolled_paths core m j) (λ q i. go q (in_either q (kept core) (rolled_paths core m j) i))
  where
    go : (q : Rows) → In q (kept core) ⊎ In q (rolled_paths core m j) → is_possible core.players q ≡ true
    go q (inl i) = (live core q (in_has (kept core) q i)).2
    go q (inr i) = possible_from_fits 0 core.players q (on_time_fits 0 core.players q (rolled_on_time core m j q i))

row_none_given : (t : ℕ) (ps : List Player) (row : List Cell) → row_possible t (map with_none_given ps) row ≡ row_possible t ps row
row_none_given t [] row = refl
row_none_given t (p ∷ ps) [] = refl
row_none_given t (p ∷ ps) (cell ∷ cells) = rw (row_none_given t ps cells) refl

from_none_given : (t : ℕ) (ps : List Player) (q : Rows) → possible_from t (map with_none_given ps) q ≡ possible_from t ps q
from_none_given t ps [] = refl
from_none_given t ps (row ∷ rows) = rw (row_none_given t ps row, from_none_given (suc t) ps rows) refl

-- nor does what is possible
pub possible_none_given : (ps : List Player) (q : Rows) → is_possible (map with_none_given ps) q ≡ is_possible ps q
possible_none_given ps q = from_none_given 0 ps q

-- nor do the timeline's rows from a frame on
pub rows_none_given : (ps : List Player) (from count : ℕ) → rows_from (map with_none_given ps) from count ≡ rows_from ps from count
rows_none_given ps from count = ap (drop from) (timeline_none_given ps (from + count))
