-- The saved states between an entry and what settles after it.
use Rattle.std.proofs.Common.{◌≡◌, ℕ, ◌+◌, ◌-◌, ◌≤◌, List, [], ◌∷◌, ◌++◌, length, refl, ap, sym, subst, ◌∙◌, arith, Bool, true, false, eqb, drop, map, min, Some}
use Rattle.std.specs.Prelude.{All, filter, slice_get, slice_index_or, slice_set}
use Rattle.std.proofs.lemmas.Bool.Decides.{nat_tests}
use Rattle.std.proofs.lemmas.List.{append-nil, append_assoc, take-append-drop}
use Rattle.std.proofs.lemmas.List.Elements.{All-filter, All-map, filter_passes}
use Rattle.roll_frame.specs.Cells.{Rows}
use Rattle.roll_frame.specs.Core.{Core, cost, depth, is_possible, kept, rolled_paths, settled}
use Rattle.roll_frame.specs.Events.{CoreEvent, added_by, applied, is_accepted, replay}
use Rattle.roll_frame.specs.Games.{Game, Value}
use Rattle.roll_frame.specs.Inputs.{changed, with_none_given}
use Rattle.roll_frame.specs.Paths.{begins_with, longest, prefixes, run}
use Rattle.roll_frame.specs.Timeline.{Player, front, timeline}
use Rattle.roll_frame.specs.declared.entry.Entry.{Entry}
use Rattle.roll_frame.specs.declared.entry.Entry.TheVariants.{Sync, Advance, Partial}
use Rattle.roll_frame.specs.declared.row.Cell.{Cell}
use Rattle.roll_frame.specs.declared.settings.Settings.{Settings}
use Rattle.roll_inputs.specs.Boards.{Inputs, count_of, with_player}
use Rattle.roll_tree.specs.SavedStates.{Saved, later, paths_of}
use Rattle.roll_laws.specs.Sessions.{IsLog}
use Rattle.roll_frame.proofs.Beginnings.{begins_is}
use Rattle.roll_frame.proofs.Timelines.{timeline_none_given}
use Rattle.roll_session.specs.Held.{IsKept, inputs_of}
use Rattle.roll_session.specs.Saves.{Standing, rows_to, settled_by, settling}
use Rattle.roll_session.specs.Standing.{from_start, rows_from, settled_rows}
use Rattle.roll_session.proofs.Filters.{filter_same, filter_states}
use Rattle.roll_session.proofs.Grows.{grown, start_is, all_possible, possible_none_given}
use Rattle.roll_session.proofs.Playing.{IsPlaying, count_is, count_reached}
use Rattle.roll_session.proofs.Rows.{length-rows_from, settled-rows_from}
use Rattle.roll_session.proofs.Settles.{Settles, newly, settles}

-- the saved states after an entry, before anything is settled
pub record IsBetween {N : Type 0} (value : N → Value) (step : Value → List Cell → Value) (opening : Value) (settings : Settings) (core : Core) (entry : Entry) (st : Standing N) : Type 0 where
  pub inputs : st.inputs ≡ record (inputs_of settings (applied core entry)) { settled = settled core }
  pub rows : timeline (applied core entry).players (settled core) ≡ timeline core.players (settled core)
  pub paths : from_start (timeline (applied core entry).players (settled core)) (paths_of st.tree) ≡ filter (is_possible (applied core entry).players) (kept core ++ added_by core entry)
  pub values : All (λ s. value s.snapshot ≡ run step opening (timeline (applied core entry).players (settled core) ++ s.path)) st.tree.states

-- the player of this number, changed
changed_is : (change : Player → Player) (players : List Player) (place : ℕ) (player : Player) → slice_get players place ≡ Some player → changed change players (place + 1) ≡ slice_set players place (change player)
changed_is change players place player e =
    let z : eqb (place + 1) 0 ≡ false = grind (arith, nat_tests) in
    let y : place + 1 - 1 ≡ place = omega arith in
    rw (z, y, e) refl

module _ {N : Type 0} (value : N → Value) (step : Value → List Cell → Value) (opening : Value) (settings : Settings) (core : Core) where
  -- once a player who is there is changed, the test leaves, of the saved states' paths, those that are possible. It is given the
  -- player's number, and how many of its words are past the settled frame
  abbrev Leaves : (Player → Player) → (ℕ → ℕ → Rows → Bool) → List Rows → Type 0
  Leaves change test paths = (place : ℕ) (player : Player) → slice_get core.players place ≡ Some player → player.gone ≡ false → settled core ≤ length player.words
      → from_start (settled_rows core) (filter (test (place + 1) (length player.words - settled core)) paths) ≡ filter (is_possible (slice_set core.players place (change player))) (kept core)

  -- a player who is there is changed, and the paths that this rules out are gone
  pub between_input : (entry : Entry) (change : Player → Player) (p : ℕ) (test : ℕ → ℕ → Rows → Bool) (st st' : Standing N)
      → (applied core entry).players ≡ changed change core.players p → (applied core entry).frame ≡ core.frame → added_by core entry ≡ []
      → IsKept value step opening settings core st → IsPlaying core.players p → All (λ (q : Player). q.gone ≡ false → settled core ≤ length q.words) core.players
      → Leaves change test (paths_of st.tree)
      → st'.inputs ≡ with_player change (inputs_of settings core) p
      → st'.tree.states ≡ filter (λ s. test p (count_of core.players p - settled core) s.path) st.tree.states
      → timeline st'.inputs.players (settled core) ≡ settled_rows core
      → IsBetween value step opening settings core entry st'
  between_input entry change p test st st' is_players is_frame is_added k is ahead cuts inputs states rows =
      let count : count_of core.players p ≡ length is.player.words = count_is (inputs_of settings core) p is in
      let later : List Player = changed change core.players p in
      let now : later ≡ slice_set core.players is.place (change is.player) = ap (changed change core.players) is.number ∙ changed_is change core.players is.place is.player is.is_there in
      let left : Rows → Bool = test p (count_of core.players p - settled core) in
      let cut : from_start (settled_rows core) (filter left (paths_of st.tree)) ≡ filter (is_possible later) (kept core) =
      rw (now, count, is.number) (cuts is.place is.player is.is_there is.here (rw count at (count_reached (inputs_of settings core) p is ahead))) in
      let same : timeline later (settled core) ≡ settled_rows core = ap (λ (i : Inputs). timeline i.players (settled core)) (sym inputs) ∙ rows in
      record {
        inputs = inputs ∙ rw (is_players, is_frame) refl;
        rows = rw is_players same;
        paths = rw (is_players, is_added, same) (ap (from_start (settled_rows core)) (ap (map (λ (s : Saved N). s.path)) states ∙ filter_states left st.tree.states) ∙ cut ∙ ap (filter (is_possible later)) (sym (append-nil (kept core))));
        values = rw (is_players, same, states) (All-filter (λ s. left s.path) (λ s. value s.snapshot ≡ run step opening (settled_rows core ++ s.path)) st.tree.states k.values);
      }

module _ {N : Type 0} (value : N → Value) (step : Value → List Cell → Value) (opening : Value) (settings : Settings) (game : Game) (log : List Entry) (is_log : IsLog settings game log) where
  -- what is held after the first j states of a roll, all of it possible
  held_rolled : (m j : ℕ) (st st' : Standing N) → IsKept value step opening settings (replay settings log) st → (replay settings log).frame ≤ m
      → paths_of st'.tree ≡ paths_of st.tree ++ prefixes (rows_to st.inputs m) (longest (paths_of st.tree) (rows_to st.inputs m)) j
      → from_start (settled_rows (replay settings log)) (paths_of st'.tree) ≡ filter (is_possible (replay settings log).players) (kept (replay settings log) ++ rolled_paths (replay settings log) m j)
  held_rolled m j st st' k l paths =
      let core : Core = replay settings log in
      let rows : rows_to st.inputs m ≡ rows_from core.players (settled core) (m - settled core) = ap (λ (i : Inputs). rows_to i m) k.inputs in
      ap (from_start (settled_rows core)) (paths ∙ ap (λ (r : Rows). paths_of st.tree ++ prefixes r (longest (paths_of st.tree) r) j) rows)
      ∙ grown settings game log is_log (paths_of st.tree) k.kept_is m l j
      ∙ sym (all_possible core m j)

  -- a roll adds as many states as it costs
  cost_is : (m : ℕ) (st : Standing N) → IsKept value step opening settings (replay settings log) st → (replay settings log).frame ≤ m
      → m - settled (replay settings log) - longest (paths_of st.tree) (rows_to st.inputs m) ≡ cost (replay settings log) m
  cost_is m st k l =
      let core : Core = replay settings log in
      let rows : rows_to st.inputs m ≡ rows_from core.players (settled core) (m - settled core) = ap (λ (i : Inputs). rows_to i m) k.inputs in
      let far : longest (paths_of st.tree) (rows_to st.inputs m) ≡ longest (paths_of st.tree) (rows_from core.players (settled core) (m - settled core)) = ap (longest (paths_of st.tree)) rows in
      let start : depth core m ≡ settled core + longest (paths_of st.tree) (rows_from core.players (settled core) (m - settled core)) = start_is settings game log is_log (paths_of st.tree) k.kept_is m l in
      omega (arith, far, start)

  -- the states of a roll to the frame
  pub between_sync : (st st' : Standing N) → IsKept value step opening settings (replay settings log) st
      → st'.inputs ≡ st.inputs
      → paths_of st'.tree ≡ paths_of st.tree ++ prefixes (rows_to st.inputs (replay settings log).frame) (longest (paths_of st.tree) (rows_to st.inputs (replay settings log).frame)) ((replay settings log).frame - settled (replay settings log) - longest (paths_of st.tree) (rows_to st.inputs (replay settings log).frame))
      → All (λ s. value s.snapshot ≡ run step opening (settled_rows (replay settings log) ++ s.path)) st'.tree.states
      → IsBetween value step opening settings (replay settings log) Sync st'
  between_sync st st' k inputs paths values =
      let m : ℕ = (replay settings log).frame in
      let reached : (replay settings log).frame ≤ m = omega arith in
      record {
        inputs = inputs ∙ k.inputs;
        rows = refl;
        paths = held_rolled m (cost (replay settings log) m) st st' k reached (paths ∙ ap (λ j. paths_of st.tree ++ prefixes (rows_to st.inputs m) (longest (paths_of st.tree) (rows_to st.inputs m)) j) (cost_is m st k reached));
        values = values;
      }

  -- the first states of a roll
  pub between_partial : (to made : ℕ) (st st' : Standing N) → IsKept value step opening settings (replay settings log) st → (replay settings log).frame ≤ to
      → st'.inputs ≡ st.inputs
      → paths_of st'.tree ≡ paths_of st.tree ++ prefixes (rows_to st.inputs to) (longest (paths_of st.tree) (rows_to st.inputs to)) made
      → All (λ s. value s.snapshot ≡ run step opening (settled_rows (replay settings log) ++ s.path)) st'.tree.states
      → IsBetween value step opening settings (replay settings log) (Partial to made) st'
  between_partial to made st st' k l inputs paths values =
      record { inputs = inputs ∙ k.inputs; rows = refl; paths = held_rolled to made st st' k l paths; values = values }

  -- the states of a roll to the next frame
  pub between_advance : (st st' : Standing N) → IsKept value step opening settings (replay settings log) st
      → st'.inputs ≡ record st.inputs { frame = st.inputs.frame + 1; players = map with_none_given st.inputs.players }
      → paths_of st'.tree ≡ paths_of st.tree ++ prefixes (rows_to st.inputs ((replay settings log).frame + 1)) (longest (paths_of st.tree) (rows_to st.inputs ((replay settings log).frame + 1))) ((replay settings log).frame + 1 - settled (replay settings log) - longest (paths_of st.tree) (rows_to st.inputs ((replay settings log).frame + 1)))
      → All (λ s. value s.snapshot ≡ run step opening (settled_rows (replay settings log) ++ s.path)) st'.tree.states
      → IsBetween value step opening settings (replay settings log) Advance st'
  between_advance st st' k inputs paths values =
      let core : Core = replay settings log in
      let m : ℕ = core.frame + 1 in
      let reached : core.frame ≤ m = omega arith in
      let same : timeline (map with_none_given core.players) (settled core) ≡ settled_rows core = timeline_none_given core.players (settled core) in
      let all : List Rows = kept core ++ rolled_paths core m (cost core m) in
      record {
        inputs = inputs ∙ ap (λ (i : Inputs). record i { frame = i.frame + 1; players = map with_none_given i.players }) k.inputs;
        rows = same;
        paths =
            ap (λ (T : Rows). from_start T (paths_of st'.tree)) same
            ∙ held_rolled m (cost core m) st st' k reached (paths ∙ ap (λ j. paths_of st.tree ++ prefixes (rows_to st.inputs m) (longest (paths_of st.tree) (rows_to st.inputs m)) j) (cost_is m st k reached))
            ∙ sym (filter_same (is_possible (map with_none_given core.players)) (is_possible core.players) all (λ q i. possible_none_given core.players q));
        values = rw same values;
      }

-- the paths as they are seen from n rows later
later_paths : {N : Type 0} (n : ℕ) (xs : List (Saved N)) → map (λ (s : Saved N). s.path) (map (later n) xs) ≡ map (drop n) (map (λ (s : Saved N). s.path) xs)
later_paths n [] = refl
later_paths n (x ∷ xs) = ap (λ (l : List Rows). drop n x.path ∷ l) (later_paths n xs)

-- a path that begins with the rows, and what follows them
split_path : (T R q : Rows) → begins_with q R ≡ true → T ++ q ≡ (T ++ R) ++ drop (length R) q
split_path T R q h =
    let parts : R ++ drop (length R) q ≡ q = ap (λ (p : Rows). p ++ drop (length R) q) (begins_is q R h) ∙ take-append-drop (length R) q in
    ap (λ (p : Rows). T ++ p) (sym parts) ∙ sym (append_assoc T R (drop (length R) q))

module _ {N : Type 0} (value : N → Value) (step : Value → List Cell → Value) (opening : Value) where
  -- the states keep their values where more rows settle
  pub values_settle : (T R : Rows) (xs : List (Saved N)) → All (λ s. value s.snapshot ≡ run step opening (T ++ s.path)) xs
      → All (λ s. value s.snapshot ≡ run step opening ((T ++ R) ++ s.path)) (map (later (length R)) (filter (λ u. begins_with u.path R) xs))
  values_settle T R xs h =
      let state_named = All-filter (λ u. begins_with u.path R) (λ s. value s.snapshot ≡ run step opening (T ++ s.path)) xs h in
      let begun = filter_passes (λ (u : Saved N). begins_with u.path R) xs in
      All-map (λ s. value s.snapshot ≡ run step opening ((T ++ R) ++ s.path)) (later (length R)) (filter (λ u. begins_with u.path R) xs)
      (λ k d lt. state_named k d lt ∙ ap (run step opening) (split_path T R (slice_index_or (filter (λ (u : Saved N). begins_with u.path R) xs) k d).path (begun k d lt)))

module _ {N : Type 0} (value : N → Value) (step : Value → List Cell → Value) (opening : Value) (settings : Settings) (game : Game) (log : List Entry) (is_log : IsLog settings game log) (event : CoreEvent) (accepted : is_accepted settings game (replay settings log) event ≡ true) where
  between_settles : (st : Standing N) → IsBetween value step opening settings (replay settings log) event.entry st → Settles (replay settings log) (applied (replay settings log) event.entry) (paths_of st.tree)
  between_settles st b = settles settings game log event is_log accepted (paths_of st.tree) b.paths b.rows

  -- what is settled was confirmed by all
  pub can_settle : (st : Standing N) → IsBetween value step opening settings (replay settings log) event.entry st → st.inputs.settled ≤ front st.inputs.players
  can_settle st b =
      let is_settled : st.inputs.settled ≡ settled (replay settings log) = ap (λ (i : Inputs). i.settled) b.inputs in
      let is_front : front st.inputs.players ≡ front (applied (replay settings log) event.entry).players = ap (λ (i : Inputs). front i.players) b.inputs in
      let reached = (between_settles st b).reached in
      omega (arith, is_settled, is_front, reached)

  -- the saved states after an entry are those kept
  pub settled_kept : (st st' : Standing N) → IsBetween value step opening settings (replay settings log) event.entry st
      → st'.inputs ≡ record st.inputs { settled = st.inputs.settled + settling st }
      → st'.tree.states ≡ settled_by st (settling st)
      → IsKept value step opening settings (applied (replay settings log) event.entry) st'
  settled_kept st st' b inputs states =
      let core : Core = replay settings log in
      let next : Core = applied core event.entry in
      let s : ℕ = settled core in
      let ps : List Rows = paths_of st.tree in
      let n : ℕ = newly next s ps in
      let R : Rows = rows_from next.players s n in
      let it = between_settles st b in
      let many : settling st ≡ n = ap (λ (i : Inputs). longest ps (rows_to i (min (front i.players) i.frame))) b.inputs in
      let far : s + settling st ≡ settled next = ap (λ k. s + k) many ∙ sym it.settled_is in
      let are : st'.tree.states ≡ map (later n) (filter (λ u. begins_with u.path R) st.tree.states) =
      states
      ∙ ap (λ k. map (later k) (filter (λ u. begins_with u.path (rows_from st.inputs.players st.inputs.settled k)) st.tree.states)) many
      ∙ ap (λ (i : Inputs). map (later n) (filter (λ u. begins_with u.path (rows_from i.players i.settled n)) st.tree.states)) b.inputs in
      let paths : paths_of st'.tree ≡ map (drop n) (filter (λ q. begins_with q R) ps) =
      ap (map (λ (u : Saved N). u.path)) are
      ∙ later_paths n (filter (λ u. begins_with u.path R) st.tree.states)
      ∙ ap (map (drop n)) (filter_states (λ q. begins_with q R) st.tree.states) in
      let long : length R ≡ n = length-rows_from next.players s n in
      let rows : timeline next.players s ++ R ≡ settled_rows next = settled-rows_from next.players s n ∙ ap (timeline next.players) (sym it.settled_is) in
      record {
        inputs = inputs ∙ ap (λ (i : Inputs). record i { settled = i.settled + settling st }) b.inputs ∙ ap (λ k. record (inputs_of settings next) { settled = k }) far;
        kept_is = ap (from_start (settled_rows next)) paths ∙ ap (λ k. from_start (timeline next.players k) (map (drop n) (filter (λ q. begins_with q R) ps))) it.settled_is ∙ it.kept_is;
        values =
            subst (λ (l : List (Saved N)). All (λ u. value u.snapshot ≡ run step opening (settled_rows next ++ u.path)) l) (ap (λ k. map (later k) (filter (λ u. begins_with u.path R) st.tree.states)) long ∙ sym are)
            (subst (λ (T : Rows). All (λ u. value u.snapshot ≡ run step opening (T ++ u.path)) (map (later (length R)) (filter (λ u. begins_with u.path R) st.tree.states))) rows
            (values_settle value step opening (timeline next.players s) R st.tree.states b.values));
      }
