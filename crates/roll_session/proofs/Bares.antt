-- A session without a game.
use Rattle.std.proofs.Common.{◌≡◌, ℕ, zero, ◌+◌, ◌-◌, ◌<◌, ◌≤◌, List, [], ◌∷◌, ◌++◌, take, length, get_or, map, refl, ap, sym, subst, ◌∙◌, arith, Option, None, Some, Bool, false, true, Result, Ok, Err}
use Rattle.std.specs.Prelude.{◌&&◌, All, filter, if◌then◌else◌, is_none, max, nat_le, nat_lt, option_map, unwrap_or, IfErr, IfSome, IsErrAnd, IsNone}
use Rattle.std.proofs.lemmas.List.Elements.{All-filter}
use Rattle.roll_frame.specs.Cells.{Rows}
use Rattle.roll_frame.specs.Core.{Core}
use Rattle.roll_frame.specs.Events.{applied, replay, tests_of}
use Rattle.roll_frame.specs.Games.{Value}
use Rattle.roll_frame.specs.Paths.{begins_with, run}
use Rattle.roll_frame.specs.Settings.{open_to_branches, start_refusal}
use Rattle.roll_frame.specs.Timeline.{timeline}
use Rattle.roll_frame.specs.declared.entry.Entry.{Entry}
use Rattle.roll_frame.specs.declared.entry.Entry.TheVariants.{Local, Remote, Disconnect, Advance, Graft, Partial}
use Rattle.roll_frame.specs.declared.settings.Settings.{Settings}
use Rattle.roll_frame.proofs.Timelines.{timeline_none_given}
use Rattle.roll_inputs.specs.Boards.{Inputs, first_inputs}
use Rattle.roll_inputs.specs.declared.heard.Heard.{Heard}
use Rattle.roll_inputs.specs.declared.heard.Heard.TheVariants.{Taken as HeardNow, Repeated as HeardBefore}
use Rattle.roll_laws.proofs.Glue.{replay-push}
use Rattle.roll_plan.specs.Plans.{Planned}
use Rattle.roll_tree.specs.SavedStates.{Saved, later}
use Rattle.roll_session.specs.Calls.{entry_of, IsAdmitted, IsAllowed, IsInput, IsRoll, IsRollTo}
use Rattle.roll_session.specs.Gameless.{bare_branch, route_refusal_of, seen_bare, still, unroomed, Bare, IsBare, KeepsAll, KeepsGiven, KeepsGrafted, KeepsRolled}
use Rattle.roll_branch.specs.Routed.{AreStates, Routed}
use Rattle.roll_frame.specs.declared.route.Route.{Route}
use Rattle.roll_session.specs.Grafting.{ahead_of, anchor_of, has_no_room, is_same_there, place_tests, start_of, there_tests, KeepsWorth}
use Rattle.std.proofs.lemmas.Bool.{false≢true, le-ltb, lt-ltb}
use Rattle.roll_session.specs.Guessing.{job_along, kept_of, route_along}
use Rattle.roll_frame.specs.Refusals.{first_refusal}
use Rattle.roll_frame.specs.declared.refusal.Refusal.{Refusal}
use Rattle.roll_frame.specs.declared.refusal.Refusal.TheVariants.{LogFull, NoMemory, Stranger, TreeFull}
use Rattle.roll_session.specs.Changes.{graft_refusal, reserve_refusal, FitsLog, IsRefused, IsWhy}
use Rattle.std.proofs.lemmas.Bool.Decides.{nat_tests}
use Rattle.roll_session.proofs.Judging.{graft_refused_by}
use Rattle.roll_session.specs.Held.{IsSession}
use Rattle.roll_session.specs.Saves.{HaveValues, Standing, settled_by, settling, stepped_inputs, taken_inputs, taken_states}
use Rattle.roll_session.specs.Seen.{Seen, Step, game_of}
use Rattle.roll_session.specs.Standing.{rows_from}
use Rattle.roll_session.specs.Ways.{IsGoing}
use Rattle.roll_session.specs.declared.event.Call.{Call}
use Rattle.roll_session.specs.declared.event.Call.TheVariants.{Sync as SyncCall, Advance as AdvanceCall}
use Rattle.roll_session.specs.declared.way.Way.{Way}
use Rattle.roll_session.proofs.Between.{values_settle}
use Rattle.roll_session.proofs.Holding.{replay-nil, session_first}
use Rattle.roll_session.proofs.Rolling.{whole}
use Rattle.roll_session.proofs.Rows.{length-rows_from, settled-rows_from}

-- what is kept at the start
pub bare_first : {N : Type 0} (settings : Settings) (saves : Standing N) (name : ℕ) (first : N) → start_refusal settings ≡ None → saves.inputs ≡ first_inputs settings → saves.tree.states ≡ record { name = name; path = []; snapshot = first } ∷ []
    → IsBare settings [] saves (record { players = settings.players; last = None })
bare_first settings saves name first fine inputs states =
    let shown : Some zero ≡ option_map (λ rows. zero) (replay settings []).shown = sym (ap (λ (c : Core). option_map (λ rows. zero) c.shown) (replay-nil settings)) in
    subst (IsSession {S = ℕ} (λ state. []) (λ snapshot. []) still [] settings [] saves (record { players = settings.players; last = None })) shown (session_first (λ (state : ℕ). []) (λ snapshot. []) still [] settings saves zero name first fine inputs states refl refl)

pub still_shown : (core : Core) (call : Call) → IsInput call → (applied core (entry_of call)).shown ≡ core.shown
still_shown core SyncCall i = absurd i
still_shown core AdvanceCall i = absurd i
still_shown core call i = refl

-- what is kept after an entry that shows nothing else
pub bare_taken : {N : Type 0} (settings : Settings) (log : List Entry) (after : Standing N) (planner : Planned) (entry : Entry) → (applied (replay settings log) entry).shown ≡ (replay settings log).shown
    → IsSession {S = ℕ} (λ state. []) (λ snapshot. []) still [] settings (log ++ entry ∷ []) after planner (option_map (λ rows. 0) (replay settings log).shown)
    → IsBare settings (log ++ entry ∷ []) after planner
bare_taken settings log after planner entry shown s =
    let same : (replay settings log).shown ≡ (replay settings (log ++ entry ∷ [])).shown = sym (ap (λ (c : Core). c.shown) (replay-push settings log entry) ∙ shown) in
    subst (λ (o : Option Rows). IsSession {S = ℕ} (λ state. []) (λ snapshot. []) still [] settings (log ++ entry ∷ []) after planner (option_map (λ rows. 0) o)) same s

roll_shown : (core : Core) (call : Call) (to : ℕ) → IsRollTo core call to → option_map (λ rows. zero) (applied core (entry_of call)).shown ≡ Some zero
roll_shown core SyncCall to e = refl
roll_shown core AdvanceCall to e = refl
roll_shown core call to e = absurd e

-- and after a roll
pub bare_rolled : {N : Type 0} (settings : Settings) (log : List Entry) (after : Standing N) (planner : Planned) (call : Call) (to : ℕ) → IsRollTo (replay settings log) call to
    → IsSession {S = ℕ} (λ state. []) (λ snapshot. []) still [] settings (log ++ entry_of call ∷ []) after planner (Some zero)
    → IsBare settings (log ++ entry_of call ∷ []) after planner
bare_rolled settings log after planner call to is_to s =
    let same : Some zero ≡ option_map (λ rows. zero) (replay settings (log ++ entry_of call ∷ [])).shown = sym (ap (λ (c : Core). option_map (λ rows. zero) c.shown) (replay-push settings log (entry_of call)) ∙ roll_shown (replay settings log) call to is_to) in
    subst (IsSession {S = ℕ} (λ state. []) (λ snapshot. []) still [] settings (log ++ entry_of call ∷ []) after planner) same s

-- and after a roll that the game refused
pub bare_partial : {N : Type 0} (settings : Settings) (log : List Entry) (after : Standing N) (planner : Planned) (to made : ℕ)
    → IsSession {S = ℕ} (λ state. []) (λ snapshot. []) still [] settings (log ++ Partial to made ∷ []) after planner None
    → IsBare settings (log ++ Partial to made ∷ []) after planner
bare_partial settings log after planner to made s =
    let same : None ≡ option_map (λ rows. zero) (replay settings (log ++ Partial to made ∷ [])).shown = sym (ap (λ (c : Core). option_map (λ rows. zero) c.shown) (replay-push settings log (Partial to made))) in
    subst (IsSession {S = ℕ} (λ state. []) (λ snapshot. []) still [] settings (log ++ Partial to made ∷ []) after planner) same s

-- a call that rolls repeats nothing
pub roll_allowed : (old mid : Seen) (call : Call) (heard : Heard) → IsRoll call → IsAdmitted still old mid call heard → IsAllowed still old call × (mid ≡ record old { reserved = max old.reserved 1 })
roll_allowed old mid call HeardNow i a = a
roll_allowed old mid SyncCall HeardBefore i a = absurd (cc a.0)
roll_allowed old mid AdvanceCall HeardBefore i a = absurd (cc a.0)
roll_allowed old mid call HeardBefore i a = absurd i

same_settled : (inputs : Inputs) (entry : Entry) → (taken_inputs inputs entry).settled ≡ inputs.settled
same_settled inputs (Local p word) = refl
same_settled inputs (Remote p f word) = refl
same_settled inputs (Disconnect p) = refl
same_settled inputs entry = refl

-- a step to the next frame changes no settled row
pub stepped_rows : (inputs : Inputs) (entry : Entry) → timeline (stepped_inputs inputs entry).players (stepped_inputs inputs entry).settled ≡ timeline inputs.players inputs.settled
stepped_rows inputs Advance = timeline_none_given inputs.players inputs.settled
stepped_rows inputs entry = refl

module _ {N : Type 0} where
  all_taken : (P : Saved N → Type 0) (inputs : Inputs) (entry : Entry) (xs : List (Saved N)) → All P xs → All P (taken_states inputs entry xs)
  all_taken P inputs (Local p word) xs h = All-filter _ P xs h
  all_taken P inputs (Remote p f word) xs h = All-filter _ P xs h
  all_taken P inputs (Disconnect p) xs h = All-filter _ P xs h
  all_taken P inputs entry xs h = h

  -- a player's input drops states, and changes no settled row
  pub keeps_taken : (old cut : Standing N) (entry : Entry) → cut.inputs ≡ taken_inputs old.inputs entry → cut.tree.states ≡ taken_states old.inputs entry old.tree.states → timeline cut.inputs.players old.inputs.settled ≡ timeline old.inputs.players old.inputs.settled → KeepsAll old cut
  keeps_taken old cut entry inputs states rows = λ value step opening h.
      let there : cut.inputs.settled ≡ old.inputs.settled = ap (λ (i : Inputs). i.settled) inputs ∙ same_settled old.inputs entry in
      rw (states, there, rows) (all_taken (λ s. value s.snapshot ≡ run step opening (timeline old.inputs.players old.inputs.settled ++ s.path)) old.inputs entry old.tree.states h)

  -- nor does settling change what a state is worth
  pub keeps_settled : (cut new : Standing N) → new.inputs ≡ record cut.inputs { settled = cut.inputs.settled + settling cut } → new.tree.states ≡ settled_by cut (settling cut) → KeepsAll cut new
  keeps_settled cut new inputs states = λ value step opening h.
      let R : Rows = rows_from cut.inputs.players cut.inputs.settled (settling cut) in
      let long : length R ≡ settling cut = length-rows_from cut.inputs.players cut.inputs.settled (settling cut) in
      let kept = values_settle value step opening (timeline cut.inputs.players cut.inputs.settled) R cut.tree.states h in
      let rows : timeline cut.inputs.players cut.inputs.settled ++ R ≡ timeline cut.inputs.players (cut.inputs.settled + settling cut) = settled-rows_from cut.inputs.players cut.inputs.settled (settling cut) in
      let T : Rows = timeline cut.inputs.players (cut.inputs.settled + settling cut) in
      let here = subst (λ (t : Rows). All (λ s. value s.snapshot ≡ run step opening (t ++ s.path)) (map (later (length R)) (filter (λ u. begins_with u.path R) cut.tree.states))) rows kept in
      let cut_off = subst (λ (k : ℕ). All (λ s. value s.snapshot ≡ run step opening (T ++ s.path)) (map (later k) (filter (λ u. begins_with u.path R) cut.tree.states))) long here in
      let after : timeline new.inputs.players new.inputs.settled ≡ T = ap (λ (i : Inputs). timeline i.players i.settled) inputs in
      subst (λ (t : Rows). All (λ s. value s.snapshot ≡ run step opening (t ++ s.path)) new.tree.states) (sym after)
      (subst (λ (l : List (Saved N)). All (λ s. value s.snapshot ≡ run step opening (T ++ s.path)) l) (sym states) cut_off)

-- the room for settled rows is nothing to a roll
pub any_room : {N : Type 0} (s : Standing N) (way : Way) → IsGoing (unroomed s) way → IsGoing s way
any_room s way g = record { base = g.base; within = g.within; near = g.near; told = g.told; deepest = g.deepest; here = g.here; fits = g.fits }

pub with_room : {N : Type 0} (s : Standing N) (way : Way) → IsGoing s way → IsGoing (unroomed s) way
with_room s way g = record { base = g.base; within = g.within; near = g.near; told = g.told; deepest = g.deepest; here = g.here; fits = g.fits }

-- what nothing is known of leads to nothing
pub no_run : (rows : Rows) → run still [] rows ≡ []
no_run [] = refl
no_run (row ∷ rows) = no_run rows

module _ {N : Type 0} (s : Standing N) (way : Way) (g : IsGoing s way) where
  low : s.inputs.settled ≤ way.frame
  low = omega (arith, g.deepest)

  module _ (states : List N) (after : Standing N) (n : ℕ) (k : KeepsRolled s after way.frame states n) where
    -- where each of a roll's states has the value that the timeline leads to, so has each state that is then saved
    pub rolled_values : (value : N → Value) (step : Step) (opening : Value) → HaveValues value step opening (timeline s.inputs.players s.inputs.settled) s.tree.states
        → ((j : ℕ) (d : N) → j < n → value (get_or states j d) ≡ run step opening (timeline s.inputs.players (way.frame + j + 1)))
        → HaveValues value step opening (timeline s.inputs.players s.inputs.settled) after.tree.states
    rolled_values value step opening h given =
        let T : Rows = timeline s.inputs.players s.inputs.settled in
        k value (λ q. run step opening (T ++ q)) h (λ j d few. given j d few ∙ ap (run step opening) (sym (whole s.inputs.players s.inputs.settled (way.frame + j + 1) (omega (arith, low)))))

    -- stepped on from, and settled
    pub keeps_given : (cut new : Standing N) (entry : Entry) → after.inputs ≡ s.inputs → cut.inputs ≡ stepped_inputs after.inputs entry → cut.tree ≡ after.tree → new.inputs ≡ record cut.inputs { settled = cut.inputs.settled + settling cut } → new.tree.states ≡ settled_by cut (settling cut)
        → n ≡ length states → KeepsGiven s new way.frame states
    keeps_given cut new entry same inputs tree after_inputs after_states all = λ value step opening h given.
        let rows : timeline cut.inputs.players cut.inputs.settled ≡ timeline s.inputs.players s.inputs.settled = ap (λ (i : Inputs). timeline i.players i.settled) inputs ∙ stepped_rows after.inputs entry ∙ ap (λ (i : Inputs). timeline i.players i.settled) same in
        keeps_settled cut new after_inputs after_states value step opening
        (rw (tree, rows) (rolled_values value step opening h (λ j d few. given j d (omega (arith, few, all)))))

-- a branch of a game of which nothing is known has the states that it is to have
pub bare_states : {N : Type 0} (rows : Rows) (states : List N) → length states ≡ length rows → AreStates (λ u. []) still [] rows states
bare_states rows states many = record { many = many; worth = λ k d few. sym (no_run (take (k + 1) rows)) }

-- its states at the anchor are always the same
pub bare_same : {N : Type 0} (s : Standing N) (route : Route) → is_same_there still [] s route [] ≡ true
bare_same s route =
    rw (no_run (take (anchor_of s.inputs route - start_of route) route.rows.items), no_run (timeline s.inputs.players s.inputs.settled ++ take (anchor_of s.inputs route - s.inputs.settled) (ahead_of s.inputs route))) refl

pub keeps_grafted : {N : Type 0} (old cut new : Standing N) (route : Route) (states : List N) → KeepsWorth old cut route states → cut.inputs ≡ old.inputs → new.inputs ≡ record cut.inputs { settled = cut.inputs.settled + settling cut } → new.tree.states ≡ settled_by cut (settling cut) → KeepsGrafted old new route states
keeps_grafted old cut new route states worth same inputs settled_are = λ value step opening h given.
    let T : Rows = timeline old.inputs.players old.inputs.settled in
    keeps_settled cut new inputs settled_are value step opening (rw same (worth value (λ q. run step opening (T ++ q)) h given))

-- the first refusal of tests of which one fails for certain
surely : (tests rest : List (Bool × Refusal)) (why : Refusal) → first_refusal (tests ++ (true, why) ∷ rest) ≡ first_refusal (tests ++ (true, why) ∷ [])
surely [] rest why = refl
surely ((true, first) ∷ tests) rest why = refl
surely ((false, first) ∷ tests) rest why = surely tests rest why

surely_some : (tests : List (Bool × Refusal)) (why : Refusal) → is_none (first_refusal (tests ++ (true, why) ∷ [])) ≡ false
surely_some [] why = refl
surely_some ((true, first) ∷ tests) why = refl
surely_some ((false, first) ∷ tests) why = surely_some tests why

-- why a branch is refused, by what the fields tell
pub route_refused : {N : Type 0} {settings : Settings} {log : List Entry} {saves : Standing N} {planner : Planned} → IsBare settings log saves planner → (reserved : ℕ) (same : Bool) (route : Route) (most : ℕ) (first : Option Refusal) → most ≡ open_to_branches settings.profile
    → first ≡ first_refusal (place_tests saves route ++ there_tests most same saves route)
    → route_refusal_of same (record { seen = seen_bare settings log reserved; saves = unroomed saves }) route ≡ (if is_none first && nat_le settings.log (length log) then Some LogFull else first)
route_refused {saves = saves} s reserved true route most first most_is told =
    graft_refused_by s (bare_branch 0 route) most first most_is (told ∙ ap (λ (b : Bool). first_refusal (place_tests saves route ++ there_tests most b saves route)) (sym (bare_same saves route)))
route_refused {saves = saves} s reserved false route most first most_is told =
    let same : first ≡ first_refusal (place_tests saves route ++ (true, Stranger) ∷ []) = told ∙ surely (place_tests saves route) ((has_no_room most saves route, TreeFull) ∷ []) Stranger in
    let some : is_none first ≡ false = ap (λ (o : Option Refusal). is_none o) same ∙ surely_some (place_tests saves route) Stranger in
    rw some (sym same)

-- a branch that isn't refused has the saved state at its anchor
pub route_accepted : {N : Type 0} (same : Bool) (s : Bare N) (route : Route) → route_refusal_of same s route ≡ None → graft_refusal still s.seen (bare_branch 0 route) ≡ None
route_accepted true s route fine = fine
route_accepted false s route fine = absurd (false≢true (sym (surely_some (place_tests s.saves route) Stranger) ∙ ap (λ (o : Option Refusal). is_none o) fine))

-- tests of which none fails, the last neither
last_passes : (tests : List (Bool × Refusal)) (last : Bool) (why : Refusal) → first_refusal (tests ++ (last, why) ∷ []) ≡ None → last ≡ false
last_passes [] true why h = absurd (cc h)
last_passes [] false why h = refl
last_passes ((true, first) ∷ tests) last why h = absurd (cc h)
last_passes ((false, first) ∷ tests) last why h = last_passes tests last why h

-- where memory ran out for a branch that the rules accept
pub graft_short : (old new : Seen) (branch : Routed) (refusal : Option Refusal) (why : Refusal) → refusal ≡ None → graft_refusal still old branch ≡ None → IsWhy (reserve_refusal old 1) why → (FitsLog old 1 → old.reserved < 1) → new ≡ old → IsRefused refusal old new why
graft_short old new branch refusal why none fine because short same =
    let room : nat_le old.settings.log old.core.logged ≡ false = last_passes (tests_of old.settings (game_of still old) old.core branch.from (Graft branch.ticket branch.route)) (nat_le old.settings.log old.core.logged) LogFull fine in
    let fits : nat_lt old.settings.log (old.core.logged + 1) ≡ false = grind (arith, nat_tests, room) in
    let few : old.core.logged + 1 ≤ old.settings.log = grind (arith, nat_tests, room) in
    let gone = short few in
    record {
      said = (rw fits at because) ∙ ap (λ (o : Option Refusal). unwrap_or o NoMemory) (sym none);
      unchanged = same;
      reserved = λ e. omega (arith, gone);
    }

pub handed_on : {X : Type 0} (result : Result X Refusal) (why : Refusal) (P : Refusal → Type 0) → IsErrAnd result (λ error. error ≡ why) → P why → IfErr result P
handed_on (Ok x) why P h p = absurd h
handed_on (Err error) why P h p = subst P (sym h) p

-- where a job of a game of which nothing is known starts
pub bare_start : {N : Type 0} (s : Standing N) (rows : Rows) (start : Option (ℕ × Route)) → IfSome start (λ r. kept_of s rows < length rows) → IfSome start (λ r. r.1 ≡ route_along s rows) → (IsNone start → length rows ≤ kept_of s rows) → option_map (λ r. bare_branch 0 r.1) start ≡ job_along still [] s rows
bare_start s rows None left route none = rw (le-ltb (kept_of s rows) (length rows) (none refl)) refl
bare_start s rows (Some r) left route none =
    let nothing : [] ≡ run still [] (timeline s.inputs.players s.inputs.settled ++ take (kept_of s rows) rows) = sym (no_run (timeline s.inputs.players s.inputs.settled ++ take (kept_of s rows) rows)) in
    rw (lt-ltb (kept_of s rows) (length rows) left) (λ i. Some (record { ticket = 0; route = route i; from = nothing i }))
