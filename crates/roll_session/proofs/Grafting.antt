-- What a graft leaves of what the fields of a session keep.
use Rattle.std.proofs.Common.{◌≡◌, ◌⊎◌, ℕ, ◌+◌, ◌-◌, ◌<◌, ◌≤◌, List, [], ◌∷◌, ◌++◌, length, take, drop, refl, ap, sym, ◌∙◌, Bool, true, false, arith, subst, inl, inr, Option, None}
use Rattle.std.specs.Prelude.{filter, nat_le, nat_lt, not, ◌&&◌}
use Rattle.std.proofs.Math.Seq.{take-append-add}
use Rattle.std.proofs.lemmas.Bool.{and_parts, leb-false, ltb-false, not-false}
use Rattle.std.proofs.lemmas.List.{map-append}
use Rattle.roll_branch.specs.Routed.{AreStates, Routed}
use Rattle.roll_frame.specs.declared.entry.Entry.{Entry}
use Rattle.roll_frame.specs.declared.entry.Entry.TheVariants.{Graft}
use Rattle.roll_frame.specs.declared.limits.TheConstants.{PATH_LIMIT, TREE_LIMIT}
use Rattle.roll_frame.specs.declared.refusal.Refusal.{Refusal}
use Rattle.roll_frame.specs.declared.refusal.Refusal.TheVariants.{LogFull}
use Rattle.roll_frame.specs.declared.route.Route.{Route}
use Rattle.roll_frame.specs.declared.profile.Profile.{Profile}
use Rattle.roll_frame.specs.declared.profile.Profile.TheVariants.{Ggpo, Wide}
use Rattle.roll_frame.specs.declared.settings.Settings.{Settings}
use Rattle.roll_frame.specs.Cells.{Rows}
use Rattle.roll_frame.specs.Core.{Core, is_possible, kept, settled}
use Rattle.roll_frame.specs.Events.{branch_of, is_accepted, refusal, replay, tests_of}
use Rattle.roll_frame.specs.Games.{Game, Value}
use Rattle.roll_frame.specs.Grafts.{anchor, anchor_length, graft_tests, new_paths, start_of as start_rows, whole_of}
use Rattle.roll_frame.specs.Paths.{contains, longest, prefixes, run}
use Rattle.roll_frame.specs.Refusals.{first_refusal}
use Rattle.roll_frame.specs.Settings.{open_to_branches}
use Rattle.roll_frame.specs.Timeline.{front}
use Rattle.roll_frame.proofs.Timelines.{length_timeline}
use Rattle.roll_inputs.specs.Boards.{Inputs}
use Rattle.roll_laws.proofs.Few.{length_prefixes}
use Rattle.roll_laws.proofs.Glue.{always_holds}
use Rattle.roll_laws.proofs.KeptPaths.{live}
use Rattle.roll_laws.proofs.Prefixes.{in_filter}
use Rattle.roll_laws.proofs.Saved.{In, in_either, in_has}
use Rattle.roll_laws.proofs.Sound.{Sound, sound_played}
use Rattle.roll_laws.proofs.Worth.{same_are, worth_on}
use Rattle.roll_plan.specs.Plans.{Planned}
use Rattle.roll_tree.specs.SavedStates.{SavedStates, paths_of}
use Rattle.roll_session.specs.Calls.{grafting}
use Rattle.roll_session.specs.Grafting.{KeepsWorth, ahead_of, anchor_of, count_new, end_of, has_no_room, is_same_there, kept_to, place_tests, possible_to, start_of}
use Rattle.roll_session.specs.Held.{IsKept, IsSession, inputs_of}
use Rattle.roll_session.specs.Saves.{HaveValues, Standing, settled_by, settling}
use Rattle.roll_session.specs.Seen.{Step}
use Rattle.roll_session.specs.Standing.{from_start, settled_rows}
use Rattle.roll_session.proofs.Between.{IsBetween, can_settle}
use Rattle.roll_session.proofs.Grows.{filter_whole, prefixes_on}
use Rattle.roll_session.proofs.NewStates.{rest_fits}
use Rattle.roll_inputs.proofs.Refusals.{first_refusal-front}
use Rattle.roll_session.proofs.Holding.{accepted}
use Rattle.roll_session.proofs.Judging.{judged, kept_possible, long_start, new_are, orphan_is, same_there, whole_split}
use Rattle.roll_session.proofs.Rolled.{roll_fits, session_event}

module _ {N : Type 0} (value : N → Value) (step : Step) (opening : Value) (settings : Settings) (core : Core) (ticket : ℕ) (route : Route) where
  -- all that is held after a graft is possible
  all_possible : filter (is_possible core.players) (kept core ++ new_paths core (branch_of route)) ≡ kept core ++ new_paths core (branch_of route)
  all_possible = filter_whole (is_possible core.players) (kept core ++ new_paths core (branch_of route)) (λ q i. go q (in_either q (kept core) (new_paths core (branch_of route)) i))
    where
      go : (q : Rows) → In q (kept core) ⊎ In q (new_paths core (branch_of route)) → is_possible core.players q ≡ true
      go q (inl i) = (live core q (in_has (kept core) q i)).2
      go q (inr i) = (and_parts (is_possible core.players q) (not (contains (kept core) q)) (in_filter (λ path. is_possible core.players path && not (contains (kept core) path)) q _ i).1).0

  -- the saved states after a graft
  between_graft : (old new : Standing N) → IsKept value step opening settings core old → whole_of core (branch_of route) ≡ settled_rows core ++ ahead_of old.inputs route
      → new_paths core (branch_of route) ≡ prefixes (whole_of core (branch_of route)) (kept_to old route) (count_new old route)
      → new.inputs ≡ old.inputs
      → paths_of new.tree ≡ paths_of old.tree ++ prefixes (ahead_of old.inputs route) (longest (paths_of old.tree) (ahead_of old.inputs route)) (count_new old route)
      → HaveValues value step opening (settled_rows core) new.tree.states
      → IsBetween value step opening settings core (Graft ticket route) new
  between_graft old new k whole adds inputs paths values =
      let T : Rows = settled_rows core in
      let R : Rows = ahead_of old.inputs route in
      let d : ℕ = longest (paths_of old.tree) R in
      let long : length T ≡ old.inputs.settled = length_timeline core.players (settled core) ∙ sym (ap (λ (i : Inputs). i.settled) k.inputs) in
      let more : from_start T (prefixes R d (count_new old route)) ≡ new_paths core (branch_of route) =
      prefixes_on T R d (count_new old route) ∙ ap (λ n. prefixes (T ++ R) (n + d) (count_new old route)) long ∙ ap (λ (q : Rows). prefixes q (kept_to old route) (count_new old route)) (sym whole) ∙ sym adds in
      record {
        inputs = inputs ∙ k.inputs;
        rows = refl;
        paths = ap (from_start T) paths ∙ map-append (λ r. T ++ r) (paths_of old.tree) (prefixes R d (count_new old route)) ∙ ap (λ (qs : List Rows). qs ++ from_start T (prefixes R d (count_new old route))) k.kept_is ∙ ap (λ (qs : List Rows). kept core ++ qs) more ∙ sym all_possible;
        values = values;
      }

-- what the tests of a branch say of what is saved, where none fails
pub record CanGraft {N : Type 0} (step : Step) (opening : Value) (core : Core) (saves : Standing N) (route : Route) (from : Value) : Type 0 where
  pub base : route.path.base ≤ saves.inputs.settled
  pub reached : saves.inputs.settled < end_of route
  pub near : end_of route ≤ saves.inputs.settled + PATH_LIMIT
  pub low : start_of route ≤ kept_to saves route
  pub possible : kept_to saves route ≤ possible_to saves.inputs route
  pub fits : length saves.tree.states + count_new saves route ≤ TREE_LIMIT
  pub whole : whole_of core (branch_of route) ≡ settled_rows core ++ ahead_of saves.inputs route
  pub adds : new_paths core (branch_of route) ≡ prefixes (whole_of core (branch_of route)) (kept_to saves route) (count_new saves route)
  pub worth : (frame : ℕ) → kept_to saves route ≤ frame → run step from (take (frame + 1 - start_of route) route.rows.items) ≡ run step opening (settled_rows core ++ take (frame + 1 - saves.inputs.settled) (ahead_of saves.inputs route))

-- a first test that doesn't fail
passes : (b : Bool) (why : Refusal) (tests : List (Bool × Refusal)) → first_refusal ((b, why) ∷ tests) ≡ None → (b ≡ false) × (first_refusal tests ≡ None)
passes true why tests h = absurd (cc h)
passes false why tests h = (refl, h)

-- there is room for what a branch adds
room_left : (count many most : ℕ) → (nat_lt 0 count && nat_lt most (many + count)) ≡ false → many ≤ TREE_LIMIT → most ≤ TREE_LIMIT → many + count ≤ TREE_LIMIT
room_left count many most h few limit = go (nat_lt 0 count) (nat_lt most (many + count)) refl refl h
  where
    go : (a b : Bool) → nat_lt 0 count ≡ a → nat_lt most (many + count) ≡ b → (a && b) ≡ false → many + count ≤ TREE_LIMIT
    go false b e f h = omega (arith, ltb-false 0 count e, few)
    go true false e f h = omega (arith, ltb-false most (many + count) f, limit)
    go true true e f h = absurd (cc h)

few_open : (profile : Profile) → open_to_branches profile ≤ TREE_LIMIT
few_open Ggpo = omega arith
few_open Wide = omega arith

module _ {N : Type 0} (settings : Settings) (core : Core) (sound : Sound settings core) (tree : SavedStates N) (kept_is : from_start (settled_rows core) (paths_of tree) ≡ kept core) (route : Route) (room : ℕ) (step : Step) (opening : Value) (from : Value) where
  abbrev here : Standing N
  here = record { inputs = inputs_of settings core; tree = tree; room = room }

  can_graft_here : length tree.states ≤ TREE_LIMIT → first_refusal (graft_tests (record { opening = opening; step = step }) (open_to_branches settings.profile) core from (branch_of route)) ≡ None → CanGraft step opening core here route from
  can_graft_here few fine =
      let most : ℕ = open_to_branches settings.profile in
      let tests : List (Bool × Refusal) = place_tests here route ++ (not (is_same_there step opening here route from), _) ∷ (has_no_room most here route, _) ∷ [] in
      let p1 = passes _ _ (drop 1 tests) (sym (judged settings core sound tree kept_is route room step opening most from) ∙ fine) in
      let p2 = passes _ _ (drop 2 tests) p1.1 in
      let p3 = passes _ _ (drop 3 tests) p2.1 in
      let p4 = passes _ _ (drop 4 tests) p3.1 in
      let p5 = passes _ _ (drop 5 tests) p4.1 in
      let p6 = passes _ _ (drop 6 tests) p5.1 in
      let p7 = passes _ _ (drop 7 tests) p6.1 in
      let p8 = passes _ _ (drop 8 tests) p7.1 in
      let base = ltb-false (settled core) route.path.base p1.0 in
      let near = ltb-false (settled core + PATH_LIMIT) (end_of route) p3.0 in
      let reached = leb-false (end_of route) (settled core) p4.0 in
      let alive = ltb-false (possible_to (inputs_of settings core) route) (anchor_of (inputs_of settings core) route) p5.0 in
      let deep = ltb-false (kept_to here route) (anchor_of (inputs_of settings core) route) p6.0 in
      let anchored = not-false (contains (kept core) (anchor core (branch_of route))) (orphan_is settings core sound tree kept_is route room base reached alive ∙ p6.0) in
      let whole = whole_split settings core sound tree kept_is route room base reached alive in
      let start = long_start settings core sound tree kept_is route room in
      let same : run step from (take (anchor_length core (branch_of route) - length (start_rows core (branch_of route))) route.rows.items) ≡ run step opening (anchor core (branch_of route)) = same_are _ _ (same_there settings core sound tree kept_is route room step opening most from base reached alive ∙ not-false (is_same_there step opening here route from) p7.0) in
      record {
        base = base;
        reached = reached;
        near = near;
        low = omega (arith, deep);
        possible = kept_possible settings core sound tree kept_is route room base reached alive;
        fits = room_left (count_new here route) (length tree.states) most p8.0 few (few_open settings.profile);
        whole = whole;
        adds = new_are settings core sound tree kept_is route room base reached alive anchored;
        worth = λ frame high.
            let T : Rows = settled_rows core in
            let R : Rows = ahead_of (inputs_of settings core) route in
            let place : frame + 1 ≡ length T + (frame + 1 - settled core) = omega (arith, length_timeline core.players (settled core), high) in
            ap (λ n. run step from (take (frame + 1 - n) route.rows.items)) (sym start)
            ∙ worth_on step from opening (start_rows core (branch_of route)) route.rows.items (anchor_length core (branch_of route)) (frame + 1) (omega arith) (omega (arith, start, deep, high)) same
            ∙ ap (run step opening) (ap (take (frame + 1)) whole ∙ ap (λ n. take n (T ++ R)) place ∙ take-append-add T R (frame + 1 - settled core));
      }

module _ {S N : Type 0} {state_value : S → Value} {snapshot_value : N → Value} {step : Step} {opening : Value} {settings : Settings} {log : List Entry} {saves : Standing N} {planner : Planned} {current : Option S} (s : IsSession state_value snapshot_value step opening settings log saves planner current) (branch : Routed) (fine : refusal settings (record { opening = opening; step = step }) (replay settings log) (grafting branch) ≡ None) where
  abbrev game : Game
  game = record { opening = opening; step = step }

  abbrev core : Core
  core = replay settings log

  -- a branch that isn't refused
  pub can_graft : CanGraft step opening core saves branch.route branch.from
  can_graft =
      let sound = always_holds Sound sound_played settings game log s.is_log in
      let few = roll_fits s core.frame (omega arith) (omega arith) in
      subst (λ (i : Inputs). CanGraft step opening core (record { inputs = i; tree = saves.tree; room = saves.room }) branch.route branch.from) (sym s.kept.inputs)
      (can_graft_here settings core sound saves.tree s.kept.kept_is branch.route saves.room step opening branch.from (omega (arith, few)) (first_refusal-front (tests_of settings game core branch.from (Graft branch.ticket branch.route)) ((nat_le settings.log core.logged, LogFull) ∷ []) fine))

  -- how many states it adds
  pub grafted_count : length (new_paths core (branch_of branch.route)) ≡ count_new saves branch.route
  grafted_count = ap length can_graft.adds ∙ length_prefixes (whole_of core (branch_of branch.route)) (kept_to saves branch.route) (count_new saves branch.route)

  pub is_taken : is_accepted settings game core (grafting branch) ≡ true
  is_taken = accepted settings game core (grafting branch) refl fine

  -- its states are in the tree
  pub record HasGrafted (states : List N) (cut : Standing N) : Type 0 where
    pub are : AreStates snapshot_value step branch.from branch.route.rows.items states
    pub inputs : cut.inputs ≡ saves.inputs
    pub paths : paths_of cut.tree ≡ paths_of saves.tree ++ prefixes (ahead_of saves.inputs branch.route) (longest (paths_of saves.tree) (ahead_of saves.inputs branch.route)) (count_new saves branch.route)
    pub values : KeepsWorth saves cut branch.route states

  grafted_between : (states : List N) (cut : Standing N) → HasGrafted states cut → IsBetween snapshot_value step opening settings core (Graft branch.ticket branch.route) cut
  grafted_between states cut h =
      let g = can_graft in
      between_graft snapshot_value step opening settings core branch.ticket branch.route saves cut s.kept g.whole g.adds h.inputs h.paths
      (h.values snapshot_value (λ q. run step opening (settled_rows core ++ q)) s.kept.values
      (λ frame d low high.
      let place : frame - start_of branch.route + 1 ≡ frame + 1 - start_of branch.route = omega (arith, g.low, low) in
      h.are.worth (frame - start_of branch.route) d (omega (arith, g.low, low, high, rest_fits saves branch.route, h.are.many))
      ∙ ap (λ n. run step branch.from (take n branch.route.rows.items)) place ∙ g.worth frame low))

  -- then what can be settled may be
  pub grafted_settles : (states : List N) (cut : Standing N) → HasGrafted states cut → cut.inputs.settled ≤ front cut.inputs.players
  grafted_settles states cut h = can_settle snapshot_value step opening settings game log s.is_log (grafting branch) is_taken cut (grafted_between states cut h)

  -- the session after a graft
  pub grafted_session : (states : List N) (cut after : Standing N) → HasGrafted states cut → after.inputs ≡ record cut.inputs { settled = cut.inputs.settled + settling cut } → after.tree.states ≡ settled_by cut (settling cut)
      → IsSession state_value snapshot_value step opening settings (log ++ Graft branch.ticket branch.route ∷ []) after planner current
  grafted_session states cut after h inputs settled_are =
      session_event s (grafting branch) cut after planner current is_taken (grafted_between states cut h) inputs settled_are s.shows s.plan
