-- What the fields keep, from event to event.
use Rattle.std.proofs.Common.{◌≡◌, ℕ, ◌+◌, ◌-◌, ◌≤◌, List, [], ◌∷◌, ◌++◌, length, refl, ap, sym, ◌∙◌, subst, arith, Option, Some, None, map, eqb, false, true, Bool, cond}
use Rattle.roll_frame.specs.Inputs.{with_given, with_gone, with_words}
use Rattle.roll_frame.specs.declared.entry.Entry.TheVariants.{Disconnect, Local, Remote}
use Rattle.roll_frame.specs.declared.row.Cell.TheVariants.{Gone, Word}
use Rattle.roll_inputs.specs.Boards.{Inputs}
use Rattle.roll_laws.specs.Laws.{has_no_other}
use Rattle.roll_frame.proofs.Timelines.{length_timeline}
use Rattle.roll_session.specs.Calls.{entry_of, event_of, IsInput}
use Rattle.roll_session.specs.declared.event.Call.{Call}
use Rattle.roll_session.specs.declared.event.Call.TheVariants.{Local as LocalCall, Remote as RemoteCall, Disconnect as DisconnectCall}
use Rattle.roll_session.proofs.Cuts.{leaving_cut, word_cut}
use Rattle.roll_session.proofs.Playing.{leaving_plays, local_plays, remote_plays}
use Rattle.std.specs.Prelude.{◌==◌, All, Result, Ok, Err, IfOk, IfSome, IsSomeAnd, drop, not, option_map}
use Rattle.std.specs.List.{AllByRecursion, find, list_all}
use Rattle.std.proofs.lemmas.List.Elements.{recursion_from_All}
use Rattle.std.proofs.Math.Seq.{drop-append_seam}
use Rattle.roll_frame.specs.declared.claim.Claim.{Claim}
use Rattle.roll_frame.specs.Claims.{claim_of, path_from}
use Rattle.roll_frame.specs.Core.{Roll, kept}
use Rattle.roll_frame.specs.Order.{in_order}
use Rattle.roll_frame.specs.declared.path.Path.{Path}
use Rattle.roll_laws.proofs.Fair.{IsFair}
use Rattle.roll_laws.proofs.Rolls.{last_is_fair}
use Rattle.roll_plan.proofs.Settled.{on, order_on}
use Rattle.roll_plan.specs.Plans.{IsClaimOf, IsPlanOf, PlannedRoll}
use Rattle.roll_plan.specs.declared.plan.Plan.{Plan}
use Rattle.roll_tree.specs.SavedStates.{SavedStates, state_named, path_of}
use Rattle.roll_session.specs.Planned.{IsPlanOfRoll}
use Rattle.roll_session.specs.Standing.{from_start, as_planned, settled_rows}
use Rattle.roll_session.proofs.Between.{IsBetween, between_input}
use Rattle.roll_session.proofs.Planning.{plan_is, seen_claim}
use Rattle.std.specs.Prelude.{nat_le, ◌==◌}
use Rattle.std.proofs.lemmas.Bool.{le-leb}
use Rattle.std.proofs.lemmas.Bool.Decides.{nat_tests}
use Rattle.std.proofs.lemmas.List.Elements.{All-cons, All-nil}
use Rattle.std.proofs.lemmas.List.{append-nil}
use Rattle.roll_frame.specs.Cells.{Rows}
use Rattle.roll_frame.specs.Core.{Core, first_core, cost, settled, IsPlan}
use Rattle.roll_frame.specs.Events.{CoreEvent, replay, applied, refusal, is_repeat, is_accepted, can_be_partial, all_given, tests_of}
use Rattle.roll_frame.specs.Games.{Game}
use Rattle.roll_frame.specs.Paths.{run}
use Rattle.roll_frame.specs.Refusals.{first_refusal}
use Rattle.roll_frame.specs.Settings.{start_refusal}
use Rattle.roll_frame.specs.Timeline.{Player, timeline}
use Rattle.roll_frame.specs.declared.entry.Entry.{Entry}
use Rattle.roll_frame.specs.declared.refusal.Refusal.{Refusal}
use Rattle.roll_frame.specs.declared.settings.Settings.{Settings}
use Rattle.roll_laws.specs.Sessions.{IsLog}
use Rattle.roll_frame.specs.declared.entry.Entry.TheVariants.{Partial}
use Rattle.roll_laws.proofs.Glue.{replay-push, log_played, always_holds, log_first, log_more}
use Rattle.roll_laws.proofs.Starts.{starts_are_small, few_players}
use Rattle.roll_laws.proofs.Bounds.{players_stay, frames_end, log_ends}
use Rattle.roll_laws.proofs.Least.{rolls_are_least}
use Rattle.roll_laws.proofs.Logs.{log_is_counted}
use Rattle.roll_inputs.specs.Boards.{first_inputs}
use Rattle.roll_inputs.proofs.Refusals.{first_refusal-front}
use Rattle.roll_plan.specs.Plans.{Planned}
use Rattle.roll_tree.specs.SavedStates.{Saved, has_other, paths_of}
use Rattle.roll_session.specs.Saves.{Standing, taken_inputs, taken_states}
use Rattle.roll_session.specs.Seen.{Step, plain, IsLeast}
use Rattle.roll_session.specs.Held.{Shows, IsKept, IsSession, IsSmall, inputs_of, planned_of}

pub replay-nil : (settings : Settings) → replay settings [] ≡ first_core settings
unfolding replay
replay-nil settings = refl

-- the laws, of the core that a log leads to
pub is_small : (settings : Settings) (game : Game) (log : List Entry) → IsLog settings game log → IsSmall settings log (replay settings log)
is_small settings game log l =
    let small = starts_are_small settings l.starts in
    let as_many : length (replay settings log).players ≡ settings.players = always_holds (λ s core. length core.players ≡ s.players) players_stay settings game log l in
    let counted : (replay settings log).logged ≡ length log = ap (λ (core : Core). core.logged) (log_played settings game log l) ∙ (log_is_counted settings game l.events ∙ ap (λ (es : List Entry). length es) (sym l.left)) in
    record {
      some = omega (arith, as_many, small.some_players);
      few = omega (arith, as_many, few_players settings l.starts);
      frame = omega (arith, always_holds (λ s core. core.frame ≤ s.limit) frames_end settings game log l, small.few_frames);
      logged = counted;
      fits = omega (arith, counted, always_holds (λ s core. core.logged ≤ s.log) log_ends settings game log l);
      most = small.few_entries;
    }

-- no plan is shorter than a roll's
pub least_of : (settings : Settings) (game : Game) (log : List Entry) → IsLog settings game log → (m : ℕ) → IsLeast (replay settings log) m
least_of settings game log l = always_holds (λ s core. (m : ℕ) (path rows : Rows) → IsPlan core m path rows → cost core m ≤ length rows) rolls_are_least settings game log l

-- an event that no test refuses
pub accepted : (settings : Settings) (game : Game) (core : Core) (event : CoreEvent) → is_repeat core event.entry ≡ false → refusal settings game core event ≡ None → is_accepted settings game core event ≡ true
accepted settings game core event h e = rw (h, e) refl

pub partial_accepted : (settings : Settings) (game : Game) (core : Core) (m made : ℕ) → can_be_partial core m made ≡ true → nat_le settings.log core.logged ≡ false → refusal settings game core (plain (Partial m made)) ≡ None
partial_accepted settings game core m made e h = rw (e, h) refl

pub can_be_partial_sync : (core : Core) (made : ℕ) → made ≤ cost core core.frame → can_be_partial core core.frame made ≡ true
can_be_partial_sync core made h =
    let same : eqb core.frame core.frame ≡ true = grind (arith, nat_tests) in
    rw (same, le-leb made (cost core core.frame) h) refl

pub can_be_partial_advance : (core : Core) (made : ℕ) → all_given core.players ≡ true → made ≤ cost core (core.frame + 1) → can_be_partial core (core.frame + 1) made ≡ true
can_be_partial_advance core made g h =
    let other : eqb (core.frame + 1) core.frame ≡ false = grind (arith, nat_tests) in
    let same : eqb (core.frame + 1) (core.frame + 1) ≡ true = grind (arith, nat_tests) in
    rw (other, same, g, le-leb made (cost core (core.frame + 1)) h) refl

if_ok : {A E : Type 0} (r : Result A E) (P Q : A → Type 0) → ((x : A) → P x → Q x) → IfOk r P → IfOk r Q
if_ok (Ok x) P Q f h = f x h
if_ok (Err e) P Q f h = h

-- what holds of all states, of one that is held
pub of_held : {N : Type 0} (P : Saved N → Type 0) (t : SavedStates N) (name : ℕ) (s : Saved N) → All P t.states → state_named t name ≡ Some s → P s
of_held {N = N} P t name s all e = go t.states (recursion_from_All P t.states all) e
  where
    go : (states : List (Saved N)) → AllByRecursion P states → find (λ u. u.name == name) states ≡ Some s → P s
    go [] all e = absurd (cc e)
    go (u ∷ states) all e = at (u.name == name) all e (go states all.1)
      where
        at : (b : Bool) → AllByRecursion P (u ∷ states) → cond b (Some u) (find (λ v. v.name == name) states) ≡ Some s → (find (λ v. v.name == name) states ≡ Some s → P s) → P s
        at true all e rest = let same : u ≡ s = cc e in subst P same all.0
        at false all e rest = rest e

-- kept paths, as a tree gives them
pub paths_are : (settled : Rows) (base : ℕ) (ps : List Rows) → length settled ≡ base → map (path_of base) (in_order ps) ≡ map (path_from base) (in_order (from_start settled ps))
paths_are settled base ps e = sym (ap (map (path_from base)) (order_on settled ps) ∙ each (in_order ps))
  where
    each : (qs : List Rows) → map (path_from base) (map (on settled) qs) ≡ map (path_of base) qs
    each [] = refl
    each (q ∷ qs) = ap (λ (r : Rows). path_of base r ∷ map (path_from base) (map (on settled) qs)) (subst (λ n. drop n (settled ++ q) ≡ q) e (drop-append_seam settled q)) ∙ ap (λ (l : List Path). path_of base q ∷ l) (each qs)

module _ {S N : Type 0} (state_value : S → List ℕ) (snapshot_value : N → List ℕ) (step : Step) (opening : List ℕ) (settings : Settings) where
  -- the session after one more event
  pub session_next : (log : List Entry) (event : CoreEvent) (saves : Standing N) (planner : Planned) (current : Option S) → IsLog settings (record { opening = opening; step = step }) log
      → is_accepted settings (record { opening = opening; step = step }) (replay settings log) event ≡ true
      → IsKept snapshot_value step opening settings (applied (replay settings log) event.entry) saves
      → Shows state_value step opening (applied (replay settings log) event.entry).shown current
      → planner ≡ planned_of settings (applied (replay settings log) event.entry)
      → IsSession state_value snapshot_value step opening settings (log ++ event.entry ∷ []) saves planner current
  session_next log event saves planner current l a kept shows plan =
      let game : Game = record { opening = opening; step = step } in
      let more = log_more settings game log event l a in
      let next = replay-push settings log event.entry in
      record {
        is_log = more;
        kept = rw next kept;
        shows = rw next shows;
        plan = rw next plan;
        small = is_small settings game (log ++ event.entry ∷ []) more;
      }

  -- the session at the start
  pub session_first : (saves : Standing N) (state : S) (name : ℕ) (first : N) → start_refusal settings ≡ None → saves.inputs ≡ first_inputs settings → saves.tree.states ≡ record { name = name; path = []; snapshot = first } ∷ []
      → snapshot_value first ≡ opening → state_value state ≡ opening → IsSession state_value snapshot_value step opening settings [] saves (record { players = settings.players; last = None }) (Some state)
  session_first saves state name first h inputs states value shown =
      let game : Game = record { opening = opening; step = step } in
      record {
        is_log = log_first settings game h;
        kept = rw (replay-nil settings) (record {
          inputs = inputs;
          kept_is = rw states refl;
          values = rw states (All-cons (λ (s : Saved N). snapshot_value s.snapshot ≡ run step opening s.path) (record { name = name; path = []; snapshot = first }) [] value (All-nil (λ (s : Saved N). snapshot_value s.snapshot ≡ run step opening s.path)));
        });
        shows = rw (replay-nil settings) shown;
        plan = rw (replay-nil settings) refl;
        small = is_small settings game [] (log_first settings game h);
      }

module _ {S N : Type 0} {state_value : S → List ℕ} {snapshot_value : N → List ℕ} {step : Step} {opening : List ℕ} {settings : Settings} {log : List Entry} {saves : Standing N} {planner : Planned} {current : Option S} (s : IsSession state_value snapshot_value step opening settings log saves planner current) where
  -- a player's input that is taken
  pub taken : (call : Call) → IsInput call → refusal settings (record { opening = opening; step = step }) (replay settings log) (event_of call) ≡ None → (cut : Standing N)
      → All (λ (q : Player). q.local ≡ true → q.gone ≡ false) saves.inputs.players → All (λ (q : Player). q.gone ≡ false → saves.inputs.settled ≤ length q.words) saves.inputs.players
      → cut.inputs ≡ taken_inputs saves.inputs (entry_of call) → cut.tree.states ≡ taken_states saves.inputs (entry_of call) saves.tree.states → timeline cut.inputs.players saves.inputs.settled ≡ timeline saves.inputs.players saves.inputs.settled
      → IsBetween snapshot_value step opening settings (replay settings log) (entry_of call) cut
  taken call input fine cut stays ahead inputs states rows =
      by_call call input (first_refusal-front (tests_of settings (record { opening = opening; step = step }) core [] (entry_of call)) _ fine) (rw s.kept.inputs at inputs) (rw s.kept.inputs at states)
    where
      core : Core
      core = replay settings log

      now : Inputs
      now = inputs_of settings core

      by_call : (e : Call) → IsInput e → first_refusal (tests_of settings (record { opening = opening; step = step }) core [] (entry_of e)) ≡ None
          → cut.inputs ≡ taken_inputs now (entry_of e) → cut.tree.states ≡ taken_states now (entry_of e) saves.tree.states
          → IsBetween snapshot_value step opening settings core (entry_of e) cut
      by_call (LocalCall p word) i free inputs states =
          between_input snapshot_value step opening settings core (Local p word) (with_given word) p (λ n from q. not (has_other n from (Word word) q)) saves cut refl refl refl s.kept
          (local_plays now p (rw s.kept.inputs at stays) free) (rw s.kept.inputs at ahead)
          (λ place player at here low. word_cut core place player (with_given word player) word (paths_of saves.tree) s.kept.kept_is at here refl here low)
          inputs states (rw s.kept.inputs at rows)
      by_call (RemoteCall p f word) i free inputs states =
          between_input snapshot_value step opening settings core (Remote p f word) (with_words (word ∷ [])) p (λ n from q. not (has_other n from (Word word) q)) saves cut refl refl refl s.kept
          (remote_plays now p f free) (rw s.kept.inputs at ahead)
          (λ place player at here low. word_cut core place player (with_words (word ∷ []) player) word (paths_of saves.tree) s.kept.kept_is at here refl here low)
          inputs states (rw s.kept.inputs at rows)
      by_call (DisconnectCall p) i free inputs states =
          between_input snapshot_value step opening settings core (Disconnect p) with_gone p (λ n from q. list_all (has_no_other (n - 1) Gone) (drop from q)) saves cut refl refl refl s.kept
          (leaving_plays now p free) (rw s.kept.inputs at ahead)
          (λ place player at here low. let back : place + 1 - 1 ≡ place = omega arith in rw back (leaving_cut core place player (with_gone player) (paths_of saves.tree) s.kept.kept_is at here refl refl low))
          inputs states (rw s.kept.inputs at rows)
      by_call e i free inputs states = absurd i

  fair : (roll : Roll) → (replay settings log).last ≡ Some roll → IsFair settings.players roll
  fair = always_holds (λ st core. (roll : Roll) → core.last ≡ Some roll → IsFair st.players roll) last_is_fair settings (record { opening = opening; step = step }) log s.is_log

  -- the last claim
  pub session_claim : (result : Result Claim Refusal) → IfOk result (λ claim. IfSome planner.last (λ made. IsClaimOf planner.players made claim))
      → IfOk result (λ claim. IfSome (replay settings log).last (λ roll. claim ≡ claim_of settings.players roll))
  session_claim result h =
      if_ok result (λ claim. IfSome planner.last (λ made. IsClaimOf planner.players made claim)) (λ claim. IfSome (replay settings log).last (λ roll. claim ≡ claim_of settings.players roll))
      (λ claim made. seen_claim settings.players (replay settings log).last planner.last claim (ap (λ (p : Planned). p.last) s.plan) fair
      (subst (λ n. IfSome planner.last (λ made. IsClaimOf n made claim)) (ap (λ (p : Planned). p.players) s.plan) made)) h

  -- the last plan
  pub session_plan : {A : Type 0} (now : A → Plan) (result : Option A) → IfSome planner.last (λ made. IfSome result (λ a. IsPlanOf planner.players made (now a))) → IfSome (replay settings log).last (λ roll. IfSome result (λ a. IsPlanOfRoll settings.players roll (now a)))
  session_plan now result h = go planner.last (replay settings log).last (ap (λ (p : Planned). p.last) s.plan) fair h
    where
      some : {A : Type 0} (a : Option A) (roll : Roll) (now : A → Plan) → IsFair settings.players roll → IfSome a (λ x. IsPlanOf planner.players (as_planned roll) (now x)) → IfSome a (λ x. IsPlanOfRoll settings.players roll (now x))
      some None roll now f h = tt
      some (Some x) roll now f h = plan_is settings.players roll f (now x) (subst (λ n. IsPlanOf n (as_planned roll) (now x)) (ap (λ (p : Planned). p.players) s.plan) h)

      go : (m : Option PlannedRoll) (o : Option Roll) → m ≡ option_map as_planned o → ((roll : Roll) → o ≡ Some roll → IsFair settings.players roll) → IfSome m (λ made. IfSome result (λ a. IsPlanOf planner.players made (now a))) → IfSome o (λ roll. IfSome result (λ a. IsPlanOfRoll settings.players roll (now a)))
      go m None e f h = tt
      go m (Some roll) e f h = some result roll now (f roll refl) (subst (λ (n : Option PlannedRoll). IfSome n (λ made. IfSome result (λ a. IsPlanOf planner.players made (now a)))) e h)

  -- the snapshot of the settled state
  pub session_root : (name : ℕ) (first : N) → IsSomeAnd (state_named saves.tree name) (λ u. u.path ≡ []) → option_map (λ u. u.snapshot) (state_named saves.tree name) ≡ Some first → snapshot_value first ≡ run step opening (settled_rows (replay settings log))
  session_root name first h there = go (state_named saves.tree name) refl h there
    where
      go : (o : Option (Saved N)) → state_named saves.tree name ≡ o → IsSomeAnd o (λ u. u.path ≡ []) → option_map (λ u. u.snapshot) o ≡ Some first → snapshot_value first ≡ run step opening (settled_rows (replay settings log))
      go None e h there = absurd h
      go (Some u) e h there =
          let value = of_held (λ (v : Saved N). snapshot_value v.snapshot ≡ run step opening (settled_rows (replay settings log) ++ v.path)) saves.tree name u s.kept.values e in
          let same : u.snapshot ≡ first = cc there in
          ap snapshot_value (sym same) ∙ (value ∙ ap (run step opening) (ap (λ (q : Rows). settled_rows (replay settings log) ++ q) h ∙ append-nil (settled_rows (replay settings log))))

  -- the kept paths, as the tree gives them
  pub session_kept : map (path_of saves.inputs.settled) (in_order (paths_of saves.tree)) ≡ map (path_from (settled (replay settings log))) (in_order (kept (replay settings log)))
  session_kept =
      let core = replay settings log in
      rw s.kept.inputs (paths_are (settled_rows core) (settled core) (paths_of saves.tree) (length_timeline core.players (settled core)) ∙ ap (λ (ps : List Rows). map (path_from (settled core)) (in_order ps)) s.kept.kept_is)
