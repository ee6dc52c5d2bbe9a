-- The judgement of a branch, from what is saved.
use Rattle.std.proofs.Common.{◌≡◌, ℕ, zero, suc, ◌+◌, ◌-◌, ◌<◌, ◌≤◌, List, [], ◌∷◌, ◌++◌, length, take, drop, refl, ap, sym, ◌∙◌, Bool, true, false, arith, subst, inl, inr, length-take, length-append, max, Option, Some, None}
use Rattle.std.specs.Prelude.{◌⊎◌, nat_lt, nat_le, not, ◌&&◌, is_none, is_some, if◌then◌else◌}
use Rattle.std.proofs.lemmas.Bool.{cases_lt, false_from_ne_true, ltb-false, lt-ltb, le-ltb, leb-false, le-leb, not-false}
use Rattle.std.proofs.lemmas.List.{append_assoc, length-map, take-append-drop, take-take}
use Rattle.std.proofs.Math.Seq.{drop-append-add, take-append-add}
use Rattle.std.proofs.lemmas.Bool.Decides.{nat_tests}
use Rattle.roll_frame.specs.declared.entry.Entry.{Entry}
use Rattle.roll_frame.specs.declared.entry.Entry.TheVariants.{Graft}
use Rattle.roll_frame.specs.declared.limits.TheConstants.{PATH_LIMIT}
use Rattle.roll_frame.specs.declared.refusal.Refusal.{Refusal}
use Rattle.roll_frame.specs.declared.refusal.Refusal.TheVariants.{Stranger, TooFar, Late, Orphan, Dead, TreeFull, LogFull}
use Rattle.roll_frame.specs.declared.route.Route.{Route}
use Rattle.roll_frame.specs.declared.settings.Settings.{Settings}
use Rattle.roll_frame.specs.Cells.{Rows}
use Rattle.roll_frame.specs.Core.{Core, is_possible, kept, settled}
use Rattle.roll_frame.specs.Events.{branch_of, refusal, replay, tests_of}
use Rattle.roll_frame.specs.Games.{Game, Value}
use Rattle.roll_frame.specs.Grafts.{anchor, are_rows_of, anchor_length, anchor_value, graft_tests, new_paths, same_value, start_of, whole_of}
use Rattle.roll_frame.specs.Paths.{contains, longest, prefixes, run}
use Rattle.roll_frame.specs.Refusals.{first_refusal}
use Rattle.roll_frame.specs.Settings.{open_to_branches}
use Rattle.roll_frame.specs.Timeline.{Player, row_at, timeline}
use Rattle.roll_frame.proofs.Beginnings.{begins, longest_within}
use Rattle.roll_frame.proofs.Refused.{all_fail, first_refusal-behind}
use Rattle.roll_frame.proofs.Timelines.{length_timeline}
use Rattle.roll_branch.specs.Routed.{Routed}
use Rattle.roll_inputs.specs.Boards.{Inputs}
use Rattle.roll_laws.specs.Grafted.{kept_end, possible_end, possible_rows}
use Rattle.roll_laws.proofs.Few.{length_prefixes}
use Rattle.roll_laws.proofs.Fronts.{settled_is}
use Rattle.roll_laws.proofs.Glue.{always_holds}
use Rattle.roll_laws.proofs.Grafted.{kept_between, longest_kept, new_paths_are, possible_at, possible_below}
use Rattle.roll_laws.proofs.KeptPaths.{live, possible_settled, settled_kept}
use Rattle.roll_laws.proofs.Known.{on_time_fits, row_possible_from}
use Rattle.roll_laws.proofs.Saved.{In, has_in, longest_at_least, rows_from as time_from, timeline_is}
use Rattle.roll_laws.proofs.Sound.{Sound, sound_played}
use Rattle.roll_plan.specs.Plans.{Planned}
use Rattle.roll_tree.specs.SavedStates.{SavedStates, paths_of}
use Rattle.roll_session.specs.Calls.{grafting}
use Rattle.roll_session.specs.Grafting.{ahead_of, anchor_of, count_new, end_of, branch_tests, has_no_room, is_same_there, kept_to, rows_of_route, place_tests, possible_to, start_of as start_to}
use Rattle.roll_session.specs.Held.{IsSession, inputs_of}
use Rattle.roll_session.specs.Saves.{HaveValues, Standing}
use Rattle.roll_session.specs.Seen.{Step}
use Rattle.roll_session.specs.Standing.{from_start, settled_rows}
use Rattle.roll_inputs.proofs.Refusals.{first_refusal-some}
use Rattle.roll_session.proofs.Rows.{longest_on}
use Rattle.roll_session.proofs.Settles.{start_root}

-- tests that agree where those before them fail
agree : (a b : Bool) (why : Refusal) (xs ys : List (Bool × Refusal)) → a ≡ b → (b ≡ false → first_refusal xs ≡ first_refusal ys) → first_refusal ((a, why) ∷ xs) ≡ first_refusal ((b, why) ∷ ys)
agree a true why xs ys e f = rw e refl
agree a false why xs ys e f = rw e (f refl)

-- the timeline is possible as far as it goes, and then what follows it
possible_after : (t k : ℕ) (ps : List Player) (q : Rows) → possible_rows t ps (time_from ps t k ++ q) ≡ k + possible_rows (t + k) ps q
possible_after t zero ps q = let place : t + 0 ≡ t = omega arith in rw place (omega arith)
possible_after t (suc k) ps q =
    let place : suc t + k ≡ t + suc k = omega arith in
    let first : possible_rows t ps (row_at ps t ∷ (time_from ps (suc t) k ++ q)) ≡ suc (possible_rows (suc t) ps (time_from ps (suc t) k ++ q)) = rw (row_possible_from t ps (row_at ps t) (on_time_fits t ps (row_at ps t ∷ []) (refl, tt)).0) refl in
    omega (arith, first, possible_after (suc t) k ps q, ap (λ n. possible_rows n ps q) place)

possible_over : (base : ℕ) (ps : List Player) (q : Rows) → possible_rows 0 ps (timeline ps base ++ q) ≡ base + possible_rows base ps q
possible_over base ps q =
    let place : 0 + base ≡ base = omega arith in
    ap (λ (r : Rows). possible_rows 0 ps (r ++ q)) (timeline_is ps base) ∙ possible_after 0 base ps q ∙ ap (λ n. base + possible_rows n ps q) place

module _ {N : Type 0} (settings : Settings) (core : Core) (sound : Sound settings core) (tree : SavedStates N) (kept_is : from_start (settled_rows core) (paths_of tree) ≡ kept core) (route : Route) (room : ℕ) where
  abbrev here : Standing N
  here = record { inputs = inputs_of settings core; tree = tree; room = room }

  abbrev w : Rows
  w = whole_of core (branch_of route)

  -- the whole, by the path's base
  whole_is : w ≡ timeline core.players route.path.base ++ rows_of_route route
  whole_is = append_assoc (timeline core.players route.path.base) route.path.rows.items route.rows.items

  pub long_whole : length w ≡ end_of route
  long_whole = omega (arith, ap length whole_is, length-append (timeline core.players route.path.base) (rows_of_route route), length_timeline core.players route.path.base)

  pub long_start : length (start_of core (branch_of route)) ≡ start_to route
  long_start = omega (arith, length-append (timeline core.players route.path.base) route.path.rows.items, length_timeline core.players route.path.base)

  pub anchor_is : anchor_length core (branch_of route) ≡ anchor_of (inputs_of settings core) route
  anchor_is = ap (λ n. max n (settled core)) long_start

  pub possible_is : possible_end core (branch_of route) ≡ possible_to (inputs_of settings core) route
  possible_is = ap (possible_rows 0 core.players) whole_is ∙ possible_over route.path.base core.players (rows_of_route route)

  module _ (base : route.path.base ≤ settled core) (reached : settled core < end_of route) where
    -- the anchor is no longer than the whole
    within : anchor_length core (branch_of route) ≤ length w
    within = omega (arith, anchor_is, long_whole, length-append route.path.rows.items route.rows.items, reached)

    dead_is : not (is_possible core.players (anchor core (branch_of route))) ≡ nat_lt (possible_to (inputs_of settings core) route) (anchor_of (inputs_of settings core) route)
    dead_is = go (cases_lt (possible_to (inputs_of settings core) route) (anchor_of (inputs_of settings core) route))
      where
        go : (possible_to (inputs_of settings core) route < anchor_of (inputs_of settings core) route) ⊎ (anchor_of (inputs_of settings core) route ≤ possible_to (inputs_of settings core) route) → not (is_possible core.players (anchor core (branch_of route))) ≡ nat_lt (possible_to (inputs_of settings core) route) (anchor_of (inputs_of settings core) route)
        go (inl l) =
            let no : is_possible core.players (anchor core (branch_of route)) ≡ false = false_from_ne_true (is_possible core.players (anchor core (branch_of route))) (λ e. omega (arith, l, possible_is, anchor_is, possible_below 0 core.players w (anchor_length core (branch_of route)) within e)) in
            rw no (sym (lt-ltb (possible_to (inputs_of settings core) route) (anchor_of (inputs_of settings core) route) l))
        go (inr l) =
            let yes : is_possible core.players (anchor core (branch_of route)) ≡ true = possible_at 0 core.players w (anchor_length core (branch_of route)) (omega (arith, l, possible_is, anchor_is)) in
            rw yes (sym (le-ltb (possible_to (inputs_of settings core) route) (anchor_of (inputs_of settings core) route) l))

    module _ (alive : anchor_of (inputs_of settings core) route ≤ possible_to (inputs_of settings core) route) where
      -- the whole begins with the settled rows
      settled_begin : take (settled core) w ≡ settled_rows core
      settled_begin =
          let bound = (settled_is core sound.root).0 in
          let yes : is_possible core.players (anchor core (branch_of route)) ≡ true = possible_at 0 core.players w (anchor_length core (branch_of route)) (omega (arith, alive, possible_is, anchor_is)) in
          let low : settled core ≤ anchor_length core (branch_of route) = omega (arith, anchor_is) in
          sym (take-take (settled core) (anchor_length core (branch_of route)) w low) ∙ possible_settled core.players (settled core) (anchor core (branch_of route)) yes (omega (arith, bound)) (omega (arith, low, length-take (anchor_length core (branch_of route)) w, within))

      rest_is : drop (settled core) w ≡ ahead_of (inputs_of settings core) route
      rest_is =
          let T = timeline core.players route.path.base in
          let place : settled core ≡ length T + (settled core - route.path.base) = omega (arith, length_timeline core.players route.path.base, base) in
          ap (drop (settled core)) whole_is ∙ ap (λ n. drop n (T ++ rows_of_route route)) place ∙ drop-append-add T (rows_of_route route) (settled core - route.path.base)

      pub whole_split : w ≡ settled_rows core ++ ahead_of (inputs_of settings core) route
      whole_split = sym (take-append-drop (settled core) w) ∙ ap (λ (q : Rows). q ++ drop (settled core) w) settled_begin ∙ ap (λ (q : Rows). settled_rows core ++ q) rest_is

      kept_end_is : kept_end core (branch_of route) ≡ kept_to here route
      kept_end_is =
          let root = start_root (settled_rows core) (paths_of tree) (subst (λ (qs : List Rows). In (settled_rows core) qs) (sym kept_is) (has_in (kept core) (settled_rows core) (settled_kept settings core sound))) in
          ap (λ (qs : List Rows). longest qs w) (sym kept_is) ∙ ap (longest (from_start (settled_rows core) (paths_of tree))) whole_split
          ∙ longest_on (settled_rows core) (paths_of tree) (ahead_of (inputs_of settings core) route) root ∙ ap (λ n. n + longest (paths_of tree) (ahead_of (inputs_of settings core) route)) (length_timeline core.players (settled core))

      -- the whole is kept as far as its longest kept beginning goes, and so possible
      end_kept : contains (kept core) (take (kept_end core (branch_of route)) w) ≡ true
      end_kept = longest_kept core w (settled_rows core) (settled_kept settings core sound) (begins w (settled_rows core) (sym settled_begin ∙ ap (λ n. take n w) (sym (length_timeline core.players (settled core)))))

      pub kept_possible : kept_to here route ≤ possible_to (inputs_of settings core) route
      kept_possible = omega (arith, kept_end_is, possible_is, possible_below 0 core.players w (kept_end core (branch_of route)) (longest_within (kept core) w) (live core (take (kept_end core (branch_of route)) w) end_kept).2)

      pub orphan_is : not (contains (kept core) (anchor core (branch_of route))) ≡ nat_lt (kept_to here route) (anchor_of (inputs_of settings core) route)
      orphan_is = go (cases_lt (kept_to here route) (anchor_of (inputs_of settings core) route))
        where
          go : (kept_to here route < anchor_of (inputs_of settings core) route) ⊎ (anchor_of (inputs_of settings core) route ≤ kept_to here route) → not (contains (kept core) (anchor core (branch_of route))) ≡ nat_lt (kept_to here route) (anchor_of (inputs_of settings core) route)
          go (inl l) =
              let a = anchor_length core (branch_of route) in
              let long : length (take a w) ≡ a = omega (arith, length-take a w, within) in
              let no : contains (kept core) (anchor core (branch_of route)) ≡ false = false_from_ne_true (contains (kept core) (anchor core (branch_of route))) (λ e. omega (arith, l, kept_end_is, anchor_is, long, longest_at_least (kept core) w (take a w) (has_in (kept core) (take a w) e) (begins w (take a w) (ap (λ n. take n w) (sym long))))) in
              rw no (sym (lt-ltb (kept_to here route) (anchor_of (inputs_of settings core) route) l))
          go (inr l) =
              let yes : contains (kept core) (anchor core (branch_of route)) ≡ true = kept_between settings core w (kept_end core (branch_of route)) (anchor_length core (branch_of route)) sound end_kept (omega (arith, l, kept_end_is, anchor_is)) (omega (arith, anchor_is)) within in
              rw yes (sym (le-ltb (kept_to here route) (anchor_of (inputs_of settings core) route) l))

      module _ (anchored : contains (kept core) (anchor core (branch_of route)) ≡ true) where
        -- what it adds
        pub new_are : new_paths core (branch_of route) ≡ prefixes w (kept_to here route) (count_new here route)
        new_are = new_paths_are settings core (branch_of route) sound anchored ∙ rw (kept_end_is, possible_is) refl

        pub count_is : length (new_paths core (branch_of route)) ≡ count_new here route
        count_is = ap length new_are ∙ length_prefixes w (kept_to here route) (count_new here route)

  many_is : length (kept core) ≡ length tree.states
  many_is = ap length (sym kept_is) ∙ length-map (paths_of tree) (λ (q : Rows). settled_rows core ++ q) ∙ length-map tree.states (λ u. u.path)

  module _ (step : Step) (opening : Value) (most : ℕ) (from : Value) where
    abbrev theirs : List (Bool × Refusal)
    theirs = graft_tests (record { opening = opening; step = step }) most core from (branch_of route)

    -- the tests of what is saved
    abbrev ours : List (Bool × Refusal)
    ours = place_tests here route ++ (not (is_same_there step opening here route from), Stranger) ∷ (has_no_room most here route, TreeFull) ∷ []

    module _ (base : route.path.base ≤ settled core) (reached : settled core < end_of route) where
      module _ (alive : anchor_of (inputs_of settings core) route ≤ possible_to (inputs_of settings core) route) where
        -- the anchor, by what is saved
        anchor_rows : anchor core (branch_of route) ≡ settled_rows core ++ take (anchor_of (inputs_of settings core) route - settled core) (ahead_of (inputs_of settings core) route)
        anchor_rows =
            let T : Rows = settled_rows core in
            let R : Rows = ahead_of (inputs_of settings core) route in
            let a : ℕ = anchor_of (inputs_of settings core) route in
            let place : a ≡ length T + (a - settled core) = omega (arith, length_timeline core.players (settled core)) in
            ap (λ n. take n w) anchor_is ∙ ap (take a) (whole_split base reached alive) ∙ ap (λ n. take n (T ++ R)) place ∙ take-append-add T R (a - settled core)

        -- the branch's state there
        run_rows : anchor_length core (branch_of route) - length (start_of core (branch_of route)) ≡ anchor_of (inputs_of settings core) route - start_to route
        run_rows = omega (arith, anchor_is, long_start)

        pub same_there : same_value (anchor_value (record { opening = opening; step = step }) core from (branch_of route)) (run step opening (anchor core (branch_of route))) ≡ is_same_there step opening here route from
        same_there =
            ap (λ n. same_value (run step from (take n route.rows.items)) (run step opening (anchor core (branch_of route)))) run_rows
            ∙ ap (λ (q : Rows). same_value (run step from (take (anchor_of (inputs_of settings core) route - start_to route) route.rows.items)) (run step opening q)) anchor_rows

        full : contains (kept core) (anchor core (branch_of route)) ≡ true → first_refusal (drop 7 theirs) ≡ first_refusal (drop 7 ours)
        full anchored =
            agree (nat_lt 0 (length (new_paths core (branch_of route))) && nat_lt most (length (kept core) + length (new_paths core (branch_of route)))) (has_no_room most here route) TreeFull [] [] (rw (count_is base reached alive anchored, many_is) refl) (λ b. refl)

        other : contains (kept core) (anchor core (branch_of route)) ≡ true → first_refusal (drop 6 theirs) ≡ first_refusal (drop 6 ours)
        other anchored =
            agree (not (same_value (anchor_value (record { opening = opening; step = step }) core from (branch_of route)) (run step opening (anchor core (branch_of route))))) (not (is_same_there step opening here route from)) Stranger (drop 7 theirs) (drop 7 ours) (ap not same_there) (λ b. full anchored)

      dead : first_refusal (drop 4 theirs) ≡ first_refusal (drop 4 ours)
      dead =
          agree (not (is_possible core.players (anchor core (branch_of route)))) (nat_lt (possible_to (inputs_of settings core) route) (anchor_of (inputs_of settings core) route)) Dead (drop 5 theirs) (drop 5 ours) (dead_is base reached)
          (λ b5.
          let alive = ltb-false (possible_to (inputs_of settings core) route) (anchor_of (inputs_of settings core) route) b5 in
          agree (not (contains (kept core) (anchor core (branch_of route)))) (nat_lt (kept_to here route) (anchor_of (inputs_of settings core) route)) Orphan (drop 6 theirs) (drop 6 ours) (orphan_is base reached alive)
          (λ b6. other alive (not-false (contains (kept core) (anchor core (branch_of route))) (orphan_is base reached alive ∙ b6))))

    -- the judgement of a branch is that of what is saved
    pub judged : first_refusal (graft_tests (record { opening = opening; step = step }) most core from (branch_of route)) ≡ first_refusal (place_tests here route ++ (not (is_same_there step opening here route from), Stranger) ∷ (has_no_room most here route, TreeFull) ∷ [])
    judged =
        agree (nat_lt (settled core) route.path.base) (nat_lt (settled core) route.path.base) Stranger (drop 1 theirs) (drop 1 ours) refl
        (λ b1.
        agree (not (are_rows_of (length core.players) (rows_of_route route))) (not (are_rows_of (length core.players) (rows_of_route route))) Stranger (drop 2 theirs) (drop 2 ours) refl
        (λ b2.
        agree (nat_lt (settled core + PATH_LIMIT) (length w)) (nat_lt (settled core + PATH_LIMIT) (end_of route)) TooFar (drop 3 theirs) (drop 3 ours) (ap (nat_lt (settled core + PATH_LIMIT)) long_whole)
        (λ b3.
        agree (nat_le (length w) (settled core)) (nat_le (end_of route) (settled core)) Late (drop 4 theirs) (drop 4 ours) (ap (λ n. nat_le n (settled core)) long_whole)
        (λ b4. dead (ltb-false (settled core) route.path.base b1) (leb-false (end_of route) (settled core) b4)))))

-- the same of a session
pub session_judged : {S N : Type 0} {state_value : S → Value} {snapshot_value : N → Value} {step : Step} {opening : Value} {settings : Settings} {log : List Entry} {saves : Standing N} {planner : Planned} {current : Option S} → IsSession state_value snapshot_value step opening settings log saves planner current
    → (branch : Routed) → first_refusal (tests_of settings (record { opening = opening; step = step }) (replay settings log) branch.from (Graft branch.ticket branch.route)) ≡ first_refusal (branch_tests step opening (open_to_branches settings.profile) saves branch)
session_judged {step = step} {opening = opening} {settings = settings} {log = log} {saves = saves} s branch =
    let game : Game = record { opening = opening; step = step } in
    let sound = always_holds Sound sound_played settings game log s.is_log in
    judged settings (replay settings log) sound saves.tree s.kept.kept_is branch.route saves.room step opening (open_to_branches settings.profile) branch.from
    ∙ ap (λ (i : Inputs). first_refusal (branch_tests step opening (open_to_branches settings.profile) (record { inputs = i; tree = saves.tree; room = saves.room }) branch)) (sym s.kept.inputs)

-- a first refusal, or else the full log's
pub with_log : (tests : List (Bool × Refusal)) (full : Bool) → first_refusal (tests ++ (full, LogFull) ∷ []) ≡ (if is_none (first_refusal tests) && full then Some LogFull else first_refusal tests)
with_log tests full = go (first_refusal tests) refl
  where
    go : (o : Option Refusal) → first_refusal tests ≡ o → first_refusal (tests ++ (full, LogFull) ∷ []) ≡ (if is_none o && full then Some LogFull else o)
    go None e = first_refusal-behind tests ((full, LogFull) ∷ []) (all_fail tests e)
    go (Some why) e = first_refusal-some tests ((full, LogFull) ∷ []) why e

-- why a session refuses a graft, by what its fields tell
pub graft_refused_by : {S N : Type 0} {state_value : S → Value} {snapshot_value : N → Value} {step : Step} {opening : Value} {settings : Settings} {log : List Entry} {saves : Standing N} {planner : Planned} {current : Option S} → IsSession state_value snapshot_value step opening settings log saves planner current
    → (branch : Routed) (most : ℕ) (first : Option Refusal) → most ≡ open_to_branches settings.profile → first ≡ first_refusal (branch_tests step opening most saves branch)
    → refusal settings (record { opening = opening; step = step }) (replay settings log) (grafting branch) ≡ (if is_none first && nat_le settings.log (length log) then Some LogFull else first)
graft_refused_by {step = step} {opening = opening} {settings = settings} {log = log} {saves = saves} s branch most first most_is judge =
    let game : Game = record { opening = opening; step = step } in
    let core = replay settings log in
    let tests : List (Bool × Refusal) = tests_of settings game core branch.from (Graft branch.ticket branch.route) in
    let here : first_refusal tests ≡ first = session_judged s branch ∙ ap (λ n. first_refusal (branch_tests step opening n saves branch)) (sym most_is) ∙ sym judge in
    with_log tests (nat_le settings.log core.logged) ∙ rw (here, s.small.logged) refl

pub graft_refused : {S N : Type 0} {state_value : S → Value} {snapshot_value : N → Value} {step : Step} {opening : Value} {settings : Settings} {log : List Entry} {saves : Standing N} {planner : Planned} {current : Option S} → IsSession state_value snapshot_value step opening settings log saves planner current
    → (branch : Routed) (most : ℕ) (first : Option Refusal) → most ≡ open_to_branches settings.profile
    → ((x : Value) → HaveValues snapshot_value step x (timeline saves.inputs.players saves.inputs.settled) saves.tree.states → first ≡ first_refusal (branch_tests step x most saves branch))
    → refusal settings (record { opening = opening; step = step }) (replay settings log) (grafting branch) ≡ (if is_none first && nat_le settings.log (length log) then Some LogFull else first)
graft_refused {snapshot_value = snapshot_value} {step = step} {opening = opening} {settings = settings} {log = log} {saves = saves} s branch most first most_is judge =
    let values = subst (λ (T : Rows). HaveValues snapshot_value step opening T saves.tree.states) (sym (ap (λ (i : Inputs). timeline i.players i.settled) s.kept.inputs)) s.kept.values in
    graft_refused_by s branch most first most_is (judge opening values)

-- the three cases of that
pub refused_first : (first told : Option Refusal) (full : Bool) → told ≡ (if is_none first && full then Some LogFull else first) → is_some first ≡ true → first ≡ told
refused_first (Some why) told full e h = sym e
refused_first None told full e h = absurd (cc h)

pub refused_full : (first told : Option Refusal) (limit count : ℕ) → told ≡ (if is_none first && nat_le limit count then Some LogFull else first) → is_some first ≡ false → limit ≤ count → Some LogFull ≡ told
refused_full None told limit count e h l = sym (rw (le-leb limit count l) at e)
refused_full (Some why) told limit count e h l = absurd (cc h)

pub refused_none : (first told : Option Refusal) (limit count : ℕ) → told ≡ (if is_none first && nat_le limit count then Some LogFull else first) → is_some first ≡ false → count < limit → None ≡ told
refused_none None told limit count e h l = let less : nat_le limit count ≡ false = grind (arith, nat_tests) in sym (rw less at e)
refused_none (Some why) told limit count e h l = absurd (cc h)
