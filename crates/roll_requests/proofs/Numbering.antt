-- Guesses whose jobs run elsewhere.
use Rattle.std.proofs.Common.{◌≡◌, ◌≢◌, ◌⊎◌, ℕ, List, [], ◌++◌, length, get_or, refl, ap, sym, subst, ◌∙◌, arith, inl, inr, Option, Some, None, Bool, true, false, unwrap_or, is_some, append_assoc, append-nil}
use Rattle.std.specs.Prelude.{◌==◌, ◌||◌, All, IfSome, IsSomeAnd, option_map, if◌then◌else◌}
use Rattle.std.proofs.lemmas.Bool.{cases_eq}
use Rattle.slab.specs.Slab.{Slab, get, Updates}
use Rattle.roll_branch.specs.Routed.{Routed}
use Rattle.roll_frame.specs.declared.refusal.Refusal.{Refusal}
use Rattle.roll_frame.specs.declared.refusal.Refusal.TheVariants.{NoMemory}
use Rattle.roll_frame.specs.declared.route.Route.{Route}
use Rattle.roll_frame.specs.Cells.{Rows}
use Rattle.roll_frame.specs.declared.row.Cell.{Cell}
use Rattle.roll_frame.specs.Core.{Core, kept, settled}
use Rattle.roll_frame.specs.Games.{Game, Value}
use Rattle.roll_frame.specs.Guess.{job_of}
use Rattle.roll_frame.specs.Paths.{contains, run}
use Rattle.roll_frame.specs.Timeline.{timeline}
use Rattle.roll_session.specs.Gameless.{bare_branch}
use Rattle.roll_session.specs.Guessing.{job_from, rows_job}
use Rattle.roll_session.specs.Saves.{Standing}
use Rattle.roll_session.specs.Seen.{Step}
use Rattle.roll_session.proofs.Rolling.{all_held, snapshot_is, some_is}
use Rattle.roll_tree.specs.SavedStates.{Saved, state_named}
use Rattle.roll_requests.specs.Asked.{rows_of_job, rows_to_run, Asked, HasJob, IsNotGuessed, IsNumbered, Leads}
use Rattle.roll_requests.specs.Planned.{IsShort}
use Rattle.roll_requests.specs.declared.declined.Declined.{Declined}
use Rattle.roll_requests.specs.declared.declined.Declined.TheVariants.{Refused, NoSlots}
use Rattle.roll_requests.specs.Carried.{Elsewhere, carried_all, carried_out, first}
use Rattle.roll_requests.specs.Requests.{job_requests, requests_of, Adds}
use Rattle.roll_requests.specs.Slotted.{free_slots, is_among, is_taken, least_free, AreFree, Guessed, IsHeld, IsSlotted, IsTaken}
use Rattle.roll_requests.specs.declared.request.Request.{Request}
use Rattle.roll_requests.proofs.Carrying.{carried_append}
use Rattle.roll_requests.proofs.Counting.{nothing_added}
use Rattle.roll_requests.proofs.Holding.{guessed, Holds, IsAside}
use Rattle.roll_requests.proofs.Filling.{held_kept}
use Rattle.roll_requests.proofs.Leads.{hold_of}
use Rattle.roll_requests.proofs.Owning.{own_more}
use Rattle.roll_requests.proofs.Taking.{job_some}

pub none_numbered : (job : Option Routed) → None ≡ job → (here : Asked) → IsNumbered job here here None
none_numbered None e here = (refl, (λ key. refl, (refl, refl)))
none_numbered (Some job) e here = absurd cc

pub none_adds : (job : Option Routed) → None ≡ job → (limit : ℕ) (jobs : Slab Guessed) (requests : List Request) → Adds limit 0 (rows_to_run job) jobs requests requests
none_adds None e limit jobs requests = nothing_added limit jobs requests
none_adds (Some job) e limit jobs requests = absurd cc

pub numbered : (job : Option Routed) (route : Route) → Some (bare_branch 0 route) ≡ job → (old new : Asked) (n : ℕ) (guessed : Guessed) → guessed.route ≡ route → length guessed.slots ≡ length route.rows.items → get old.jobs n ≡ None → Updates old.jobs new.jobs n (Some guessed) → new.requests ≡ old.requests ++ requests_of guessed → guessed.slots ≡ least_free (is_taken old.taken) old.limit (length guessed.slots) → ((k : ℕ) → is_taken new.taken k ≡ (is_taken old.taken k || is_among guessed.slots k))
    → IsNumbered job old new (Some n)
numbered None route e old new n guessed is_route many vacant u list least taken = absurd cc
numbered (Some job) route e old new n guessed is_route many vacant u list least taken =
    let same : bare_branch 0 route ≡ job = cc e in
    record {
      guessed = guessed;
      is_job = record { route = is_route ∙ ap (λ (b : Routed). b.route) same; many = many ∙ ap (λ (b : Routed). length b.route.rows.items) same };
      vacant = vacant;
      jobs = u;
      requests = list;
      least = least;
      taken = taken;
    }

-- a guess that no test is against has no job for want of memory, or of slots for its rows
pub no_room : (refusal : Option Refusal) (job : Option Routed) (e : Asked) (needed : ℕ) (why : Declined) → refusal ≡ None → needed ≡ rows_to_run job → IsShort (length (free_slots (is_taken e.taken) e.limit)) needed why → IsNotGuessed refusal job e why
no_room refusal job e needed (Refused why) none rows is = inr (is ∙ ap (λ (o : Option Refusal). unwrap_or o NoMemory) (sym none))
no_room refusal job e needed NoSlots none rows few = (none, omega (arith, few, rows))

-- a job starts from the settled frame on
pub base_of : (game : Game) (core : Core) (rows : Rows) (route : Route) → Some (bare_branch 0 route) ≡ option_map (job_from game core) (rows_job core rows) → route.path.base ≡ settled core
base_of game core rows route = go (contains (kept core) rows)
  where
    go : (b : Bool) → Some (bare_branch 0 route) ≡ option_map (job_from game core) (if b then None else Some (job_of core rows)) → route.path.base ≡ settled core
    go true e = absurd cc
    go false e =
        let same : bare_branch 0 route ≡ job_from game core (job_of core rows) = cc e in
        ap (λ (b : Routed). b.route.path.base) same

-- the state that a job starts from is in its slot
pub starts_here : (saves : Standing ℕ) (node slot : ℕ) (route : Route) → route.path.base ≡ saves.inputs.settled → IsSomeAnd (state_named saves.tree node) (λ u. u.path ≡ route.path.rows.items) → option_map (λ u. u.snapshot) (state_named saves.tree node) ≡ Some slot
    → (step : Step) (opening : Value) (there : ℕ → Option Value) → Holds step opening saves there → there slot ≡ Some (run step opening (rows_of_job saves.inputs.players route 0))
starts_here saves node slot route base found told step opening there h =
    let x = some_is (state_named saves.tree node) (λ (u : Saved ℕ). u.path ≡ route.path.rows.items) found in
    let T : Rows = timeline saves.inputs.players saves.inputs.settled in
    let is_slot : x.0.snapshot ≡ slot = snapshot_is (state_named saves.tree node) x.0 slot told x.1 in
    ap there (sym is_slot)
    ∙ all_held (λ (v : Saved ℕ). there v.snapshot ≡ Some (run step opening (T ++ v.path))) (λ v. v.name == node) saves.tree.states x.0 h x.1
    ∙ ap (λ (q : Rows). Some (run step opening q)) (ap (λ (q : Rows). T ++ q) (x.2 ∙ sym (append-nil route.path.rows.items)) ∙ ap (λ n. timeline saves.inputs.players n ++ (route.path.rows.items ++ [])) (sym base))

-- what holds of all saved slots holds of the slot that a job starts from
pub start_has : (P : ℕ → Type 0) (saves : Standing ℕ) (node slot : ℕ) (rows : Rows) → IsSomeAnd (state_named saves.tree node) (λ u. u.path ≡ rows) → option_map (λ u. u.snapshot) (state_named saves.tree node) ≡ Some slot → All (λ u. P u.snapshot) saves.tree.states → P slot
start_has P saves node slot rows found told all =
    let x = some_is (state_named saves.tree node) (λ (u : Saved ℕ). u.path ≡ rows) found in
    subst P (snapshot_is (state_named saves.tree node) x.0 slot told x.1) (all_held (λ (v : Saved ℕ). P v.snapshot) (λ v. v.name == node) saves.tree.states x.0 all x.1)

-- one job more
pub job_more : (old new : Slab Guessed) (n : ℕ) (job : Guessed) → Updates old new n (Some job) → (P : Guessed → Type 0) → P job → ((m : ℕ) (other : Guessed) → get old m ≡ Some other → P other) → (m : ℕ) (other : Guessed) → get new m ≡ Some other → P other
job_more old new n job u P now before m other there = go (cases_eq m n)
  where
    go : (m ≡ n) ⊎ (m ≢ n) → P other
    go (inl same) =
        let both : Some job ≡ Some other = sym u.changed ∙ ap (get new) (sym same) ∙ there in
        let is : job ≡ other = cc both in
        subst P is now
    go (inr apart) = before m other (sym (u.others m apart) ∙ there)

pub taken_guessed : (states : List (Saved ℕ)) (old new : Slab Guessed) (at n limit : ℕ) (job : Guessed) (before after : List Bool) → IsSlotted states old at before → AreFree limit before job.slots → Updates old new n (Some job) → ((k : ℕ) → IsTaken before k → IsTaken after k) → IsHeld after job → IsSlotted states new at after
taken_guessed states old new at n limit job before after s free u kept mine =
    record {
      are = record { saved = λ k d few. kept _ (s.are.saved k d few); out = job_more old new n job u (IsHeld after) mine (λ m other there. held_kept before after kept other (s.are.out m other there)) };
      own = own_more states old new n limit job before s.are free u s.own;
      current = kept at s.current;
    }

pub leads_guessed : (e : Asked) (requests : List Request) (jobs : Slab Guessed) (left : List Bool) (n : ℕ) (job : Guessed) → IsSlotted e.saves.tree.states e.jobs e.at e.taken → AreFree e.limit e.taken job.slots → length job.slots ≡ length job.route.rows.items → job.route.path.base ≡ e.saves.inputs.settled
    → IsTaken e.taken job.start → ((k : ℕ) → is_taken left k ≡ (is_taken e.taken k || is_among job.slots k))
    → ((step : Step) (opening : Value) (there : ℕ → Option Value) → Holds step opening e.saves there → there job.start ≡ Some (run step opening (rows_of_job e.saves.inputs.players job.route 0)))
    → requests ≡ e.requests ++ job_requests job.start (λ k. get_or job.route.rows.items k []) job.slots → Updates e.jobs jobs n (Some job) → (past : List Request) → Leads past e → Leads past (record e { requests = requests; jobs = jobs; taken = left })
leads_guessed e requests jobs left n job s free many base is_held filled here list u past l =
    record {
      there = λ step opening.
          let m = made step opening in
          record { held = m.hold.saved; at_is = m.others e.at s.current ∙ (l.there step opening).at_is ∙ ap Some (sym m.current) };
      shown = λ step opening. subst (λ v. IfSome e.seen.core.shown (λ rows. v ≡ run step opening rows)) (sym (made step opening).current) (l.shown step opening);
      jobs = λ step opening.
          let m = made step opening in
          job_more e.jobs jobs n job u (HasJob step opening e.saves (carried_out step opening (past ++ requests)).slots) m.job_held m.hold.out;
      taken = λ step opening slot.
          ap (λ (there : Elsewhere Value). is_some (there.slots slot)) (carried_on step opening)
          ∙ job_some step job.start row job.slots e.taken (carried_out step opening (past ++ e.requests)) free.rising (l.taken step opening) slot
          ∙ sym (filled slot);
    }
  where
    row : ℕ → List Cell
    row = λ k. get_or job.route.rows.items k []

    carried_on : (step : Step) (opening : Value) → carried_out step opening (past ++ requests) ≡ carried_all step (job_requests job.start row job.slots) (carried_out step opening (past ++ e.requests))
    carried_on step opening =
        let more : List Request = job_requests job.start row job.slots in
        ap (carried_out step opening) (ap (λ (q : List Request). past ++ q) list ∙ sym (append_assoc past e.requests more))
        ∙ carried_append step (past ++ e.requests) more (first opening)

    made : (step : Step) (opening : Value) → IsAside step opening e.saves e.jobs e.limit e.taken job s.are free (carried_out step opening (past ++ e.requests)) (carried_out step opening (past ++ requests))
    made step opening =
        let before : Elsewhere Value = carried_out step opening (past ++ e.requests) in
        subst (IsAside step opening e.saves e.jobs e.limit e.taken job s.are free before) (sym (carried_on step opening))
        (guessed step opening e.saves e.jobs e.limit e.taken job s.are free before (omega (arith, base)) many is_held (here step opening before.slots (l.there step opening).held) (hold_of past e l step opening))
