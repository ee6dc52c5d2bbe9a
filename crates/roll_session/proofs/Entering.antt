-- What the fields of a session keep where an entry is judged, taken in or rolled for. All but the entry follows from what
-- the fields kept before, so that a proof names that alone.
use Rattle.std.proofs.Common.{◌≡◌, ℕ, ◌+◌, ◌-◌, ◌≤◌, List, [], ◌∷◌, ◌++◌, length, refl, ap, sym, ◌∙◌, subst, arith, Option, Some, None, cond, false, true}
use Rattle.std.specs.Prelude.{All, Bool, nat_le, not}
use Rattle.roll_inputs.specs.Boards.{Inputs}
use Rattle.roll_frame.specs.Core.{Core, cost, depth}
use Rattle.roll_frame.specs.Events.{all_given, applied, can_be_partial, is_accepted, is_repeat, refusal, replay, tests_of}
use Rattle.roll_frame.specs.Games.{Game, Value}
use Rattle.roll_frame.specs.Paths.{run}
use Rattle.roll_frame.specs.Timeline.{front, timeline}
use Rattle.roll_frame.specs.declared.entry.Entry.{Entry}
use Rattle.roll_frame.specs.declared.entry.Entry.TheVariants.{Sync, Advance, Partial}
use Rattle.roll_frame.specs.Claims.{AreRowsOf}
use Rattle.roll_frame.specs.declared.limits.TheConstants.{TREE_LIMIT}
use Rattle.roll_tree.specs.SavedStates.{paths_of}
use Rattle.roll_frame.specs.declared.refusal.Refusal.{Refusal}
use Rattle.roll_frame.specs.declared.refusal.Refusal.TheVariants.{LocalInputMissing, LogFull}
use Rattle.roll_frame.specs.declared.settings.Settings.{Settings}
use Rattle.roll_frame.proofs.Refused.{all_fail, first_refusal-behind}
use Rattle.roll_laws.proofs.Rolls.{roll_of}
use Rattle.roll_plan.specs.Plans.{Planned, planned_roll}
use Rattle.roll_game.specs.Counts.{rolled}
use Rattle.roll_game.specs.declared.counts.Counts.{Counts}
use Rattle.roll_session.specs.Answered.{counts_by}
use Rattle.roll_session.specs.Calls.{entry_of, event_of, IsInput, IsRollTo}
use Rattle.roll_session.specs.declared.event.Call.{Call}
use Rattle.roll_session.specs.declared.room.Room.{Room}
use Rattle.roll_session.specs.declared.event.Call.TheVariants.{Sync as SyncCall, Advance as AdvanceCall}
use Rattle.roll_session.specs.Held.{HasRoom, IsSession, Shows, planned_of}
use Rattle.roll_session.specs.Logs.{Filed}
use Rattle.roll_session.specs.Saves.{Standing, rows_to, settled_by, settling, stepped_inputs, taken_inputs, deepest_toward}
use Rattle.roll_session.specs.Seen.{Step, plain}
use Rattle.roll_session.specs.Standing.{as_planned}
use Rattle.roll_session.proofs.Between.{IsBetween, can_settle}
use Rattle.roll_inputs.proofs.Refusals.{first_refusal-front}
use Rattle.roll_session.proofs.Holding.{accepted, can_be_partial_advance, can_be_partial_sync, partial_accepted}
use Rattle.roll_session.proofs.Rolled.{Added, between_after_advance, between_after_partial, between_after_sync, cost_is, depth_is, frame_is, near, paths_fit, roll_fits, roll_plan, session_event, time_fits}

-- an event later there is room for one less
pub room_next : {N : Type 0} {log more : Filed} {saves after : Standing N} {room left : Room} {n : ℕ} (cut : Standing N) → HasRoom log saves room → 1 ≤ room.promised
    → log.room ≤ more.room + 1 → left.promised ≡ room.promised - 1 → left.there ≡ room.there - 1
    → cut.inputs.frame ≤ saves.inputs.frame + 1 → cut.room ≡ saves.room → after.inputs ≡ record cut.inputs { settled = n } → cut.room ≤ after.room → HasRoom more after left
room_next cut h some entered promised there frame same inputs more =
    let frames = ap (λ (i : Inputs). i.frame) inputs in
    record {
      promised = omega (arith, h.promised, promised, there);
      entries = omega (arith, h.promised, h.entries, some, entered, there);
      rows = omega (arith, h.promised, h.rows, some, frames, frame, same, more, there);
    }

-- no input changes the frame, and a roll takes it one further at most. (The case named first makes the others compute)
pub taken_frame : (inputs : Inputs) (entry : Entry) → (taken_inputs inputs entry).frame ≤ inputs.frame + 1
taken_frame inputs Sync = omega arith
taken_frame inputs entry = omega arith

pub stepped_frame : (inputs : Inputs) (entry : Entry) → (stepped_inputs inputs entry).frame ≤ inputs.frame + 1
stepped_frame inputs Advance = omega arith
stepped_frame inputs entry = omega arith

-- what is so of a roll to the current frame and of one to the next is so of each call that rolls
pub roll_cases : (P : Call → Type 0) (core : Core) (call : Call) (to : ℕ) → IsRollTo core call to → (to ≡ core.frame → P SyncCall) → (to ≡ core.frame + 1 → P AdvanceCall) → P call
roll_cases P core SyncCall to e sync advance = sync e
roll_cases P core AdvanceCall to e sync advance = advance e
roll_cases P core call to e sync advance = absurd e

module _ {S N : Type 0} {state_value : S → Value} {snapshot_value : N → Value} {step : Step} {opening : Value} {settings : Settings} {log : List Entry} {saves : Standing N} {planner : Planned} {current : Option S} (s : IsSession state_value snapshot_value step opening settings log saves planner current) where
  abbrev game : Game
  game = record { opening = opening; step = step }

  abbrev core : Core
  core = replay settings log

  -- what the saves keep between an entry and its settling
  abbrev Between : Entry → Standing N → Type 0
  Between entry cut = IsBetween snapshot_value step opening settings core entry cut

  -- what settling leaves
  pub record IsSettled (cut after : Standing N) : Type 0 where
    pub inputs : after.inputs ≡ record cut.inputs { settled = cut.inputs.settled + settling cut }
    pub states : after.tree.states ≡ settled_by cut (settling cut)

  -- then what can be settled may be
  pub settles : (entry : Entry) → is_repeat core entry ≡ false → refusal settings game core (plain entry) ≡ None → (cut : Standing N) → Between entry cut → cut.inputs.settled ≤ front cut.inputs.players
  settles entry new fine cut between = can_settle snapshot_value step opening settings game log s.is_log (plain entry) (accepted settings game core (plain entry) new fine) cut between

  -- the session after a player's input
  pub taken_session : (call : Call) → IsInput call → is_repeat core (entry_of call) ≡ false → refusal settings game core (event_of call) ≡ None → (cut after : Standing N) → Between (entry_of call) cut → IsSettled cut after
      → IsSession state_value snapshot_value step opening settings (log ++ entry_of call ∷ []) after planner current
  taken_session call input new fine cut after between settled =
      session_event s (event_of call) cut after planner current (accepted settings game core (event_of call) new fine) between settled.inputs settled.states (rw (shown call input).0 s.shows) (rw (shown call input).1 s.plan)
    where
      shown : (e : Call) → IsInput e → ((applied core (entry_of e)).shown ≡ core.shown) × ((applied core (entry_of e)).last ≡ core.last)
      shown SyncCall i = absurd i
      shown AdvanceCall i = absurd i
      shown e i = (refl, refl)

  -- the frame is near the settled one
  pub is_close : saves.inputs.frame ≤ saves.inputs.settled + saves.inputs.threshold
  is_close = near s

  -- the frame that an entry rolls to is the current one or the next
  pub is_near : (call : Call) (to : ℕ) → IsRollTo core call to → (core.frame ≤ to) × (to ≤ core.frame + 1)
  is_near call to is_to = roll_cases (λ (e : Call). (core.frame ≤ to) × (to ≤ core.frame + 1)) core call to is_to (λ e. (omega (arith, e), omega (arith, e))) (λ e. (omega (arith, e), omega (arith, e)))

  -- what a roll added to the saves
  abbrev HasAdded : ℕ → ℕ → Standing N → Type 0
  HasAdded to made after = Added s to made after

  rolled_by : (call : Call) (to : ℕ) → IsRollTo core call to → (after cut : Standing N) → HasAdded to (to - saves.inputs.settled - deepest_toward saves to) after → cut.inputs ≡ stepped_inputs after.inputs (entry_of call) → cut.tree ≡ after.tree → Between (entry_of call) cut
  rolled_by call to is_to after cut a inputs tree =
      let here = frame_is s in
      roll_cases (λ (e : Call). cut.inputs ≡ stepped_inputs after.inputs (entry_of e) → Between (entry_of e) cut) core call to is_to
      (λ e inputs. between_after_sync s to cut (e ∙ sym here)
      (record { inputs = inputs ∙ a.inputs; paths = rw tree a.paths; values = λ x h. rw tree (a.values x h) }))
      (λ e inputs. between_after_advance s to after cut (e ∙ sym (ap (λ (n : ℕ). n + 1) here)) a inputs tree) inputs

  -- the state and the plan of a roll
  shows_by : (call : Call) (to : ℕ) → IsRollTo core call to → (state : S) → state_value state ≡ run step opening (timeline core.players to) → Shows state_value step opening (applied core (entry_of call)).shown (Some state)
  shows_by call to is_to state v =
      roll_cases (λ (e : Call). Shows state_value step opening (applied core (entry_of e)).shown (Some state)) core call to is_to
      (λ e. v ∙ ap (λ (n : ℕ). run step opening (timeline core.players n)) e) (λ e. v ∙ ap (λ (n : ℕ). run step opening (timeline core.players n)) e)

  planned_by : (call : Call) (to : ℕ) → IsRollTo core call to → (planned : Planned) → planned ≡ record { players = settings.players; last = Some (as_planned (roll_of core to)) } → planned ≡ planned_of settings (applied core (entry_of call))
  planned_by call to is_to planned v =
      let plan : ℕ → Planned = λ (n : ℕ). record { players = settings.players; last = Some (as_planned (roll_of core n)) } in
      roll_cases (λ (e : Call). planned ≡ planned_of settings (applied core (entry_of e))) core call to is_to (λ e. v ∙ ap plan e) (λ e. v ∙ ap plan e)

  -- what the game was asked for
  counted_by : (call : Call) (to : ℕ) → IsRollTo core call to → (old : Counts) → rolled (cost core to) old ≡ counts_by core (entry_of call) old
  counted_by call to is_to old =
      roll_cases (λ (e : Call). rolled (cost core to) old ≡ counts_by core (entry_of e) old) core call to is_to (λ e. ap (λ (n : ℕ). rolled (cost core n) old) e) (λ e. ap (λ (n : ℕ). rolled (cost core n) old) e)

  -- a roll that the game may refuse
  pub partial_by : (call : Call) (to made : ℕ) → IsRollTo core call to → refusal settings game core (event_of call) ≡ None → made ≤ cost core to → can_be_partial core to made ≡ true
  partial_by call to made is_to fine few =
      roll_cases (λ (e : Call). refusal settings game core (event_of e) ≡ None → can_be_partial core to made ≡ true) core call to is_to
      (λ e fine. subst (λ (n : ℕ). can_be_partial core n made ≡ true) (sym e) (can_be_partial_sync core made (subst (λ (n : ℕ). made ≤ cost core n) e few)))
      (λ e fine. subst (λ (n : ℕ). can_be_partial core n made ≡ true) (sym e) (can_be_partial_advance core made (all_given_where fine) (subst (λ (n : ℕ). made ≤ cost core n) e few))) fine
    where
      go : (b : Bool) → cond (not b) (Some LocalInputMissing) (cond (nat_le settings.log core.logged) (Some LogFull) None) ≡ None → b ≡ true
      go true h = refl
      go false h = absurd (cc h)

      all_given_where : refusal settings game core (plain Advance) ≡ None → all_given core.players ≡ true
      all_given_where h = go (all_given core.players) h

  -- an event is accepted only where the log has room
  pub not_full : (entry : Entry) → refusal settings game core (plain entry) ≡ None → nat_le settings.log core.logged ≡ false
  not_full entry fine = go (nat_le settings.log core.logged) (sym (first_refusal-behind tests ((nat_le settings.log core.logged, LogFull) ∷ []) (all_fail tests (first_refusal-front tests _ fine))) ∙ fine)
    where
      tests : List (Bool × Refusal)
      tests = tests_of settings game core [] entry

      go : (b : Bool) → cond b (Some LogFull) None ≡ None → b ≡ false
      go true h = absurd (cc h)
      go false h = refl

  module _ (call : Call) (to : ℕ) (is_to : IsRollTo core call to) where
    low : core.frame ≤ to
    low = (is_near call to is_to).0

    high : to ≤ core.frame + 1
    high = (is_near call to is_to).1

    pub states_fit : length saves.tree.states + (to - saves.inputs.settled - deepest_toward saves to) ≤ TREE_LIMIT
    states_fit = roll_fits s to low high

    pub rows_fit : AreRowsOf planner.players (rows_to saves.inputs to)
    rows_fit = time_fits s to low high

    pub widths_fit : All (AreRowsOf planner.players) (paths_of saves.tree)
    widths_fit = paths_fit s to low high

    pub starts : saves.inputs.settled + deepest_toward saves to ≡ depth core to
    starts = depth_is s to low

    pub costs : to - saves.inputs.settled - deepest_toward saves to ≡ cost core to
    costs = cost_is s to low

    pub counts_are : (old : Counts) → rolled (to - saves.inputs.settled - deepest_toward saves to) old ≡ counts_by core (entry_of call) old
    counts_are old = ap (λ (n : ℕ). rolled n old) costs ∙ counted_by call to is_to old

    module _ (fine : refusal settings game core (event_of call) ≡ None) where
      not_repeat : is_repeat core (entry_of call) ≡ false
      not_repeat = roll_cases (λ (e : Call). is_repeat core (entry_of e) ≡ false) core call to is_to (λ e. refl) (λ e. refl)

      -- a roll that was made, and stepped on from
      pub rolled_settles : (after cut : Standing N) → HasAdded to (to - saves.inputs.settled - deepest_toward saves to) after → cut.inputs ≡ stepped_inputs after.inputs (entry_of call) → cut.tree ≡ after.tree → cut.inputs.settled ≤ front cut.inputs.players
      rolled_settles after cut a inputs tree = settles (entry_of call) not_repeat fine cut (rolled_by call to is_to after cut a inputs tree)

      pub rolled_next : (after cut settled : Standing N) (planned : Planned) (state : S) → HasAdded to (to - saves.inputs.settled - deepest_toward saves to) after → cut.inputs ≡ stepped_inputs after.inputs (entry_of call) → cut.tree ≡ after.tree → IsSettled cut settled
          → state_value state ≡ run step opening (timeline core.players to) → saves.tree.base ≡ saves.inputs.settled → planned ≡ record planner { last = Some (planned_roll saves.tree (rows_to saves.inputs to)) } → IsSession state_value snapshot_value step opening settings (log ++ entry_of call ∷ []) settled planned (Some state)
      rolled_next after cut settled planned state a inputs tree now value base plan =
          session_event s (event_of call) cut settled planned (Some state) (accepted settings game core (event_of call) not_repeat fine) (rolled_by call to is_to after cut a inputs tree) now.inputs now.states
          (shows_by call to is_to state value)
          (planned_by call to is_to planned (plan ∙ roll_plan s to low high base))

      -- a roll that the game refused after so many states
      module _ (made : ℕ) (few : made ≤ to - saves.inputs.settled - deepest_toward saves to) where
        pub few_made : made ≤ cost core to
        few_made = omega (arith, few, costs)

        cut_accepted : is_accepted settings game core (plain (Partial to made)) ≡ true
        cut_accepted = accepted settings game core (plain (Partial to made)) refl (partial_accepted settings game core to made (partial_by call to made is_to fine few_made) (not_full (entry_of call) fine))

        pub partial_settles : (after : Standing N) → HasAdded to made after → after.inputs.settled ≤ front after.inputs.players
        partial_settles after a =
            can_settle snapshot_value step opening settings game log s.is_log (plain (Partial to made)) cut_accepted after
            (between_after_partial s to made after low a)

        pub partial_next : (after settled : Standing N) (planned : Planned) → HasAdded to made after → IsSettled after settled → planned ≡ record planner { last = None } → IsSession state_value snapshot_value step opening settings (log ++ Partial to made ∷ []) settled planned None
        partial_next after settled planned a now plan =
            session_event s (plain (Partial to made)) after settled planned None cut_accepted
            (between_after_partial s to made after low a) now.inputs now.states tt
            (plan ∙ ap (λ (n : ℕ). record { players = n; last = None }) (ap (λ (p : Planned). p.players) s.plan))
