-- What a roll leaves of what the fields of a session keep.
use Rattle.std.proofs.Common.{◌≡◌, ℕ, ◌+◌, ◌-◌, ◌≤◌, List, [], ◌∷◌, ◌++◌, length, map, refl, ap, sym, subst, ◌∙◌, arith, true, Option, Some}
use Rattle.std.specs.Prelude.{All}
use Rattle.std.proofs.lemmas.List.{length-map}
use Rattle.roll_frame.specs.Cells.{Rows}
use Rattle.roll_frame.specs.Claims.{AreRowsOf}
use Rattle.roll_frame.specs.Core.{cost, depth, kept, settled}
use Rattle.roll_frame.specs.Events.{CoreEvent, applied, is_accepted, replay}
use Rattle.roll_frame.specs.Games.{Value}
use Rattle.roll_frame.specs.Inputs.{with_none_given}
use Rattle.roll_frame.specs.Paths.{prefixes}
use Rattle.roll_frame.specs.Timeline.{timeline}
use Rattle.roll_frame.specs.declared.entry.Entry.{Entry}
use Rattle.roll_frame.specs.declared.entry.Entry.TheVariants.{Advance, Partial, Sync}
use Rattle.roll_frame.specs.declared.limits.TheConstants.{TREE_LIMIT}
use Rattle.roll_frame.specs.declared.settings.Settings.{Settings}
use Rattle.roll_inputs.specs.Boards.{Inputs}
use Rattle.roll_laws.proofs.Fair.{IsFair}
use Rattle.roll_laws.proofs.Few.{rolls_fit}
use Rattle.roll_laws.proofs.Glue.{always_holds}
use Rattle.roll_laws.proofs.KeptPaths.{window_is_bounded}
use Rattle.roll_laws.proofs.Rolls.{next_is_fair, roll_of}
use Rattle.roll_plan.specs.Plans.{Planned, planned_roll}
use Rattle.roll_tree.specs.SavedStates.{paths_of}
use Rattle.roll_session.specs.Held.{IsSession, Shows, planned_of}
use Rattle.roll_session.specs.Saves.{HaveValues, Standing, rows_to, settled_by, settling, deepest_toward}
use Rattle.roll_session.specs.Seen.{Step}
use Rattle.roll_session.specs.Standing.{as_planned, rows_from, settled_rows}
use Rattle.roll_session.proofs.Between.{IsBetween, between_advance, between_partial, between_sync, settled_kept}
use Rattle.roll_session.proofs.Grows.{start_is}
use Rattle.roll_session.proofs.Holding.{session_next}
use Rattle.roll_session.proofs.Planning.{kept_wide, planned_roll_is, time_wide}

module _ {S N : Type 0} {state_value : S → Value} {snapshot_value : N → Value} {step : Step} {opening : Value} {settings : Settings} {log : List Entry} {saves : Standing N} {planner : Planned} {current : Option S} (s : IsSession state_value snapshot_value step opening settings log saves planner current) where
  settled_is : saves.inputs.settled ≡ settled (replay settings log)
  settled_is = ap (λ (i : Inputs). i.settled) s.kept.inputs

  pub frame_is : saves.inputs.frame ≡ (replay settings log).frame
  frame_is = ap (λ (i : Inputs). i.frame) s.kept.inputs

  -- how far the saved states reach on the timeline's way
  pub depth_is : (m : ℕ) → (replay settings log).frame ≤ m → saves.inputs.settled + deepest_toward saves m ≡ depth (replay settings log) m
  depth_is m low = rw s.kept.inputs (sym (start_is settings (record { opening = opening; step = step }) log s.is_log (paths_of saves.tree) s.kept.kept_is m low))

  -- how many states a roll adds
  pub cost_is : (m : ℕ) → (replay settings log).frame ≤ m → m - saves.inputs.settled - deepest_toward saves m ≡ cost (replay settings log) m
  cost_is m low = let d = depth_is m low in omega (arith, d)

  -- they fit the tree
  pub roll_fits : (m : ℕ) → (replay settings log).frame ≤ m → m ≤ (replay settings log).frame + 1 → length saves.tree.states + (m - saves.inputs.settled - deepest_toward saves m) ≤ TREE_LIMIT
  roll_fits m low high =
      let fit = always_holds (λ st c. (n : ℕ) → c.frame ≤ n → n ≤ c.frame + 1 → length (kept c) + cost c n ≤ TREE_LIMIT) (λ st g es h n l u. (rolls_fit st g es h n l u).1) settings (record { opening = opening; step = step }) log s.is_log m low high in
      let many : length saves.tree.states ≡ length (kept (replay settings log)) = sym (length-map saves.tree.states (λ u. u.path)) ∙ (sym (length-map (paths_of saves.tree) (λ (q : Rows). settled_rows (replay settings log) ++ q)) ∙ ap (λ (ps : List Rows). length ps) s.kept.kept_is) in
      omega (arith, fit, many, cost_is m low)

  fair : (m : ℕ) → (replay settings log).frame ≤ m → m ≤ (replay settings log).frame + 1 → IsFair settings.players (roll_of (replay settings log) m)
  fair m low high = always_holds (λ st c. (n : ℕ) → c.frame ≤ n → n ≤ c.frame + 1 → IsFair st.players (roll_of c n)) next_is_fair settings (record { opening = opening; step = step }) log s.is_log m low high

  players_are : settings.players ≡ planner.players
  players_are = sym (ap (λ (p : Planned). p.players) s.plan)

  -- the rows of a roll have a cell for each player, and so have the paths
  pub time_fits : (m : ℕ) → (replay settings log).frame ≤ m → m ≤ (replay settings log).frame + 1 → AreRowsOf planner.players (rows_to saves.inputs m)
  time_fits m low high = rw s.kept.inputs (subst (λ n. AreRowsOf n (rows_from (replay settings log).players (settled (replay settings log)) (m - settled (replay settings log)))) players_are (time_wide settings.players (replay settings log) m (fair m low high)))

  pub paths_fit : (m : ℕ) → (replay settings log).frame ≤ m → m ≤ (replay settings log).frame + 1 → All (AreRowsOf planner.players) (paths_of saves.tree)
  paths_fit m low high = subst (λ n. All (AreRowsOf n) (paths_of saves.tree)) players_are (kept_wide settings.players (replay settings log) m (paths_of saves.tree) (fair m low high) s.kept.kept_is)

  -- the plan that is taken down
  pub roll_plan : (m : ℕ) → (replay settings log).frame ≤ m → m ≤ (replay settings log).frame + 1 → saves.tree.base ≡ saves.inputs.settled
      → record planner { last = Some (planned_roll saves.tree (rows_to saves.inputs m)) } ≡ record { players = settings.players; last = Some (as_planned (roll_of (replay settings log) m)) }
  roll_plan m low high base =
      let made = planned_roll_is settings.players (replay settings log) m (paths_of saves.tree) saves.tree (fair m low high) s.kept.kept_is (start_is settings (record { opening = opening; step = step }) log s.is_log (paths_of saves.tree) s.kept.kept_is m low) (base ∙ settled_is) refl in
      let rows : rows_to saves.inputs m ≡ rows_from (replay settings log).players (settled (replay settings log)) (m - settled (replay settings log)) = rw s.kept.inputs refl in
      (λ i. record { players = sym players_are i; last = Some (planned_roll saves.tree (rows i)) }) ∙ ap (λ x. record { players = settings.players; last = Some x }) made

  -- what a roll did to the saved states: it added this many
  pub record Added (m made : ℕ) (after : Standing N) : Type 0 where
    pub inputs : after.inputs ≡ saves.inputs
    pub paths : paths_of after.tree ≡ paths_of saves.tree ++ prefixes (rows_to saves.inputs m) (deepest_toward saves m) made
    pub values : (x : Value) → HaveValues snapshot_value step x (timeline saves.inputs.players saves.inputs.settled) saves.tree.states → HaveValues snapshot_value step x (timeline saves.inputs.players saves.inputs.settled) after.tree.states

  values_there : HaveValues snapshot_value step opening (timeline saves.inputs.players saves.inputs.settled) saves.tree.states
  values_there = rw s.kept.inputs s.kept.values

  added_values : (m made : ℕ) (after : Standing N) → Added m made after → HaveValues snapshot_value step opening (settled_rows (replay settings log)) after.tree.states
  added_values m made after a = rw s.kept.inputs at (a.values opening values_there)

  pub between_after_sync : (m : ℕ) (after : Standing N) → m ≡ saves.inputs.frame → Added m (m - saves.inputs.settled - deepest_toward saves m) after → IsBetween snapshot_value step opening settings (replay settings log) Sync after
  between_after_sync m after e a =
      between_sync snapshot_value step opening settings (record { opening = opening; step = step }) log s.is_log saves after s.kept a.inputs
      (subst (λ b. paths_of after.tree ≡ paths_of saves.tree ++ prefixes (rows_to saves.inputs (replay settings log).frame) (deepest_toward saves (replay settings log).frame) ((replay settings log).frame - b - deepest_toward saves (replay settings log).frame)) settled_is
      (subst (λ n. paths_of after.tree ≡ paths_of saves.tree ++ prefixes (rows_to saves.inputs n) (deepest_toward saves n) (n - saves.inputs.settled - deepest_toward saves n)) (e ∙ frame_is) a.paths))
      (added_values m (m - saves.inputs.settled - deepest_toward saves m) after a)

  pub between_after_advance : (m : ℕ) (after next : Standing N) → m ≡ saves.inputs.frame + 1 → Added m (m - saves.inputs.settled - deepest_toward saves m) after
      → next.inputs ≡ record after.inputs { frame = after.inputs.frame + 1; players = map with_none_given after.inputs.players } → next.tree ≡ after.tree → IsBetween snapshot_value step opening settings (replay settings log) Advance next
  between_after_advance m after next e a inputs tree =
      between_advance snapshot_value step opening settings (record { opening = opening; step = step }) log s.is_log saves next s.kept (inputs ∙ rw a.inputs refl)
      (subst (λ b. paths_of next.tree ≡ paths_of saves.tree ++ prefixes (rows_to saves.inputs ((replay settings log).frame + 1)) (deepest_toward saves ((replay settings log).frame + 1)) ((replay settings log).frame + 1 - b - deepest_toward saves ((replay settings log).frame + 1))) settled_is
      (subst (λ n. paths_of next.tree ≡ paths_of saves.tree ++ prefixes (rows_to saves.inputs n) (deepest_toward saves n) (n - saves.inputs.settled - deepest_toward saves n)) (e ∙ ap (λ n. n + 1) frame_is) (rw tree a.paths)))
      (rw tree (added_values m (m - saves.inputs.settled - deepest_toward saves m) after a))

  pub between_after_partial : (m made : ℕ) (after : Standing N) → (replay settings log).frame ≤ m → Added m made after → IsBetween snapshot_value step opening settings (replay settings log) (Partial m made) after
  between_after_partial m made after low a =
      between_partial snapshot_value step opening settings (record { opening = opening; step = step }) log s.is_log m made saves after s.kept low a.inputs a.paths (added_values m made after a)

  -- the session after an event
  pub session_event : (event : CoreEvent) (between after : Standing N) (planned : Planned) (shown : Option S) → (a : is_accepted settings (record { opening = opening; step = step }) (replay settings log) event ≡ true)
      → IsBetween snapshot_value step opening settings (replay settings log) event.entry between
      → after.inputs ≡ record between.inputs { settled = between.inputs.settled + settling between } → after.tree.states ≡ settled_by between (settling between)
      → Shows state_value step opening (applied (replay settings log) event.entry).shown shown → planned ≡ planned_of settings (applied (replay settings log) event.entry)
      → IsSession state_value snapshot_value step opening settings (log ++ event.entry ∷ []) after planned shown
  session_event event between after planned shown a b inputs states shows plan =
      session_next state_value snapshot_value step opening settings log event after planned shown s.is_log a
      (settled_kept snapshot_value step opening settings (record { opening = opening; step = step }) log s.is_log event a between after b inputs states) shows plan

  -- the frame is near the settled one
  pub near : saves.inputs.frame ≤ saves.inputs.settled + saves.inputs.threshold
  near = rw s.kept.inputs (always_holds (λ st c. c.frame ≤ settled c + st.threshold) window_is_bounded settings (record { opening = opening; step = step }) log s.is_log)
