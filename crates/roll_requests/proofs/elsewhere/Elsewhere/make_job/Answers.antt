use Rattle.std.proofs.Common.{◌≡◌, ◌∙◌, ◌++◌, ◌+◌, ◌<◌, [], ℕ, List, None, Some, ap, get_or, length, lit<, refl, subst, sym}
use Rattle.std.specs.Prelude.{◌||◌, option_map, All, IfErr, IsSomeAnd}
use Rattle.slab.specs.Slab.{get, slab_len, Slab, Updates}
use Rattle.roll_frame.specs.declared.route.Route.{Route}
use Rattle.roll_frame.specs.declared.row.Cell.{Cell}
use Rattle.roll_session.specs.Gameless.{bare_branch}
use Rattle.roll_tree.specs.SavedStates.{Saved, state_named}
use Rattle.roll_requests.specs.Asked.{Asked, IsGiven}
use Rattle.roll_requests.specs.Planned.{IsShort}
use Rattle.roll_requests.specs.Requests.{job_requests, Adds}
use Rattle.roll_requests.specs.Slotted.{free_slots, is_among, is_taken, Guessed, IsOutside, IsTaken}
use Rattle.roll_requests.specs.declared.job.TheConstants.{JOBS_OUT}
use Rattle.roll_requests.specs.declared.request.Request.{Request}
use Rattle.roll_requests.proofs.Apart.{job_apart}
use Rattle.roll_requests.proofs.Counting.{job_adds}
use Rattle.roll_requests.proofs.Declining.{passed_on}
use Rattle.roll_requests.proofs.Filling.{are_kept, now_taken, still_taken}
use Rattle.roll_requests.proofs.Leads.{leads_same}
use Rattle.roll_requests.proofs.Limited.{limited_more}
use Rattle.roll_requests.proofs.Numbering.{leads_guessed, numbered, start_has, starts_here, taken_guessed}
use Rattle.roll_session.proofs.Rolling.{some_is, some_there}
use Rattle.roll_requests.proofs.elsewhere.Elsewhere.make_job.Goals as goal

pub invariant_of-self : goal.invariant_of-self
invariant_of-self c =
    let i = c.self.inside in
    let e = c.plan_job.ensures in
    let kept = are_kept i.core.saves.tree.states i.jobs i.taken c.plan_job.new.taken (λ k t. e.taken k ∙ t) c.self.invariant.0.are in
    let own = c.self.invariant.0.own in
    let a = c.self.invariant.1 in
    rw e.jobs (record { are = record { saved = kept.saved; out = kept.out }; own = record { saved = own.saved; others = own.others }; current = e.taken i.at ∙ c.self.invariant.0.current }, record { slots = a.slots; out = a.out; rows = a.rows })

pub returns-in_err-job-clause-leads : goal.returns-in_err-job-clause-leads
returns-in_err-job-clause-leads c =
    let i = c.self.inside in
    let e = c.plan_job.ensures in
    let old : Asked = record { seen = i.core.seen; saves = i.core.saves; at = i.at; requests = i.queue.requests; limit = i.limit; jobs = i.jobs; taken = i.taken } in
    rw (← c.self.view_is)
    (leads_same old (record old { requests = c.plan_job.new.queue.requests; jobs = c.plan_job.new.jobs; taken = c.plan_job.new.taken }) e.requests refl e.taken refl (λ step opening slots h. rw e.jobs (record { saved = h.saved; out = h.out })))

pub returns-in_err-job-clause-short : goal.returns-in_err-job-clause-short
returns-in_err-job-clause-short c =
    let rows = length c.args.route.now.rows.items in
    subst (λ (a : Asked). IfErr c.from_residual.result (IsShort (length (free_slots (is_taken a.taken) a.limit)) rows)) c.self.view_is
    (passed_on c.from_residual.result c.in_err-job.field-0.0 (IsShort (length (free_slots (is_taken c.self.inside.taken) c.self.inside.limit)) rows) c.from_residual.ensures.1 c.in_err-job.ensures.short)

pub plan_job-requires : goal.plan_job-requires
plan_job-requires c = c.self.invariant.1.slots

pub get-start-requires : goal.get-start-requires
get-start-requires c =
    let tree = c.self.inside.core.saves.tree in
    let there = subst (λ (a : Asked). IsSomeAnd (state_named a.saves.tree c.args.node) (λ u. u.path ≡ c.args.route.now.path.rows.items)) (sym c.self.view_is) c.requires.node in
    let x = some_is (state_named tree c.args.node) (λ (u : Saved ℕ). u.path ≡ c.args.route.now.path.rows.items) there in
    rw c.saved.ensures (some_there (state_named tree c.args.node) x.0 x.1)

pub as_slice-requires : goal.as_slice-requires
as_slice-requires c = lit< tt

pub ask_job-requires-clause-many : goal.ask_job-requires-clause-many
ask_job-requires-clause-many c = rw (c.slots.ensures, c.as_slice.ensures.value) c.in_ok-job.ensures.many

pub ask_job-requires-clause-room : goal.ask_job-requires-clause-room
ask_job-requires-clause-room c = rw c.slots.ensures c.in_ok-job.ensures.space

pub fill_all-requires : goal.fill_all-requires
fill_all-requires c = rw c.slots-2.ensures c.in_ok-job.ensures.within

pub insert_reserved-requires : goal.insert_reserved-requires
insert_reserved-requires c = c.in_ok-job.ensures.fits

-- the state that it starts from
node_of : (c : goal.After-insert_reserved) → IsSomeAnd (state_named c.self.inside.core.saves.tree c.args.node) (λ u. u.path ≡ c.args.route.now.path.rows.items)
node_of c = subst (λ (a : Asked). IsSomeAnd (state_named a.saves.tree c.args.node) (λ u. u.path ≡ c.args.route.now.path.rows.items)) (sym c.self.view_is) c.requires.node

-- it has a number that none had
updates_of : (c : goal.After-insert_reserved) → Updates c.self.inside.jobs c.insert_reserved.new.self c.args.number (Some c.in_ok-job.job)
updates_of c =
    let jobs = c.plan_job.ensures.jobs in
    let e = c.insert_reserved.ensures in
    let next : c.args.number ≡ c.self.inside.jobs.vacant_key = c.requires.next ∙ ap (λ (a : Asked). a.jobs.vacant_key) (sym c.self.view_is) in
    let key : c.insert_reserved.result ≡ c.args.number = e.key ∙ ap (λ (s : Slab Guessed). s.vacant_key) jobs ∙ sym next in
    let u = subst (λ n. Updates c.plan_job.new.jobs c.insert_reserved.new.self n (Some c.in_ok-job.job)) key e.updates in
    record { changed = u.changed; others = λ n apart. u.others n apart ∙ ap (λ (s : Slab Guessed). get_or s.slots n None) jobs }

-- what holds of all saved slots holds of the one that the job starts from
has_of : (c : goal.After-insert_reserved) (P : ℕ → Type 0) → All (λ u. P u.snapshot) c.self.inside.core.saves.tree.states → P c.in_ok-job.job.start
has_of c P all =
    subst P (sym c.in_ok-job.ensures.start)
    (start_has P c.self.inside.core.saves c.args.node c.get-start.result.now c.args.route.now.path.rows.items (node_of c) (rw c.saved.ensures at c.get-start.ensures) all)

-- what is taken then
filled_of : (c : goal.After-insert_reserved) → (k : ℕ) → is_taken c.fill_all.new.self k ≡ (is_taken c.self.inside.taken k || is_among c.in_ok-job.job.slots k)
filled_of c =
    let slots = c.in_ok-job.job.slots in
    let filled = rw c.slots-2.ensures at c.fill_all.ensures.filled in
    λ k. filled k ∙ ap (λ b. b || is_among slots k) (c.plan_job.ensures.taken k)

pub invariant_of-self-2 : goal.invariant_of-self-2
invariant_of-self-2 c =
    let i = c.self.inside in
    let slots = c.in_ok-job.job.slots in
    let filled = filled_of c in
    let kept = still_taken i.taken c.fill_all.new.self slots filled in
    let e = c.in_ok-job.ensures in
    let jobs = c.plan_job.ensures.jobs in
    let more : slab_len c.insert_reserved.new.self ≡ slab_len i.jobs + 1 = c.insert_reserved.ensures.len ∙ ap (λ (s : Slab Guessed). slab_len s + 1) jobs in
    let few : slab_len i.jobs < JOBS_OUT = subst (λ (a : Asked). slab_len a.jobs < JOBS_OUT) (sym c.self.view_is) c.requires.few in (
      taken_guessed i.core.saves.tree.states i.jobs c.insert_reserved.new.self i.at c.args.number i.limit c.in_ok-job.job i.taken c.fill_all.new.self c.self.invariant.0 e.free (updates_of c) kept
          (record { start = kept c.in_ok-job.job.start (has_of c (IsTaken i.taken) c.self.invariant.0.are.saved); slots = now_taken i.taken c.fill_all.new.self slots filled }),
      limited_more i.limit c.args.number i.jobs c.insert_reserved.new.self c.in_ok-job.job (updates_of c) more few e.few c.self.invariant.1,
    )

-- what is asked
list_of : (c : goal.After-insert_reserved) → c.ask_job.new.queue.requests ≡ c.self.inside.queue.requests ++ job_requests c.in_ok-job.job.start (λ k. get_or c.in_ok-job.job.route.rows.items k []) c.in_ok-job.job.slots
list_of c =
    let e = c.in_ok-job.ensures in
    let slots = c.in_ok-job.job.slots in
    let asked = rw (c.slots.ensures, c.as_slice.ensures.value) at c.ask_job.ensures in
    asked
    ∙ ap (λ (l : List Request). l ++ job_requests c.get-start.result.now (λ k. get_or c.args.route.now.rows.items k []) slots) c.plan_job.ensures.requests
    ∙ ap (λ (r : Route). c.self.inside.queue.requests ++ job_requests c.get-start.result.now (λ k. get_or r.rows.items k []) slots) (sym e.route)
    ∙ ap (λ s. c.self.inside.queue.requests ++ job_requests s (λ k. get_or c.in_ok-job.job.route.rows.items k []) slots) (sym e.start)

pub returns-clause-job : goal.returns-clause-job
returns-clause-job c =
    let i = c.self.inside in
    let e = c.in_ok-job.ensures in
    let route : Route = c.args.route.now in
    let old : Asked = record { seen = i.core.seen; saves = i.core.saves; at = i.at; requests = i.queue.requests; limit = i.limit; jobs = i.jobs; taken = i.taken } in
    let new : Asked = record old { requests = c.ask_job.new.queue.requests; jobs = c.insert_reserved.new.self; taken = c.fill_all.new.self } in
    let vacant : get i.jobs c.args.number ≡ None = ap (λ (a : Asked). get a.jobs c.args.number) c.self.view_is ∙ c.requires.vacant in
    subst (λ (a : Asked). IsGiven (bare_branch 0 route) a new c.args.number) c.self.view_is
    (numbered (Some (bare_branch 0 route)) route refl old new c.args.number c.in_ok-job.job e.route e.many vacant (updates_of c) (list_of c) e.least (filled_of c))

pub returns-clause-adds : goal.returns-clause-adds
returns-clause-adds c =
    let i = c.self.inside in
    let e = c.in_ok-job.ensures in
    let job : Guessed = c.in_ok-job.job in
    let row : ℕ → List Cell = λ k. get_or job.route.rows.items k [] in
    let rows = length c.args.route.now.rows.items in
    subst (λ (a : Asked). Adds a.limit 0 rows a.jobs a.requests c.ask_job.new.queue.requests) c.self.view_is
    (job_adds i.limit job.start row job.slots rows i.jobs i.queue.requests c.ask_job.new.queue.requests e.free.below e.many
    (λ n other there. job_apart other i.taken (c.self.invariant.0.are.out n other there) i.limit job.start row job.slots (has_of c (IsOutside other.slots) (c.self.invariant.0.own.saved n other there)) e.free)
    (list_of c))

pub returns-clause-leads : goal.returns-clause-leads
returns-clause-leads c =
    let i = c.self.inside in
    let e = c.in_ok-job.ensures in
    let job : Guessed = c.in_ok-job.job in
    let saves = i.core.saves in
    let told = subst (λ s. option_map (λ (u : Saved ℕ). u.snapshot) (state_named saves.tree c.args.node) ≡ Some s) (sym e.start) (rw c.saved.ensures at c.get-start.ensures) in
    let base : job.route.path.base ≡ saves.inputs.settled = ap (λ (r : Route). r.path.base) e.route ∙ c.requires.base ∙ ap (λ (a : Asked). a.saves.inputs.settled) (sym c.self.view_is) in
    let many : length job.slots ≡ length job.route.rows.items = e.many ∙ ap (λ (r : Route). length r.rows.items) (sym e.route) in
    let there : IsSomeAnd (state_named saves.tree c.args.node) (λ u. u.path ≡ job.route.path.rows.items) = subst (λ (r : Route). IsSomeAnd (state_named saves.tree c.args.node) (λ u. u.path ≡ r.path.rows.items)) (sym e.route) (node_of c) in
    let old : Asked = record { seen = i.core.seen; saves = saves; at = i.at; requests = i.queue.requests; limit = i.limit; jobs = i.jobs; taken = i.taken } in
    rw (← c.self.view_is)
    (leads_guessed old c.ask_job.new.queue.requests c.insert_reserved.new.self c.fill_all.new.self c.args.number job c.self.invariant.0 e.free many base (has_of c (IsTaken i.taken) c.self.invariant.0.are.saved) (filled_of c)
    (starts_here saves c.args.node job.start job.route base there told) (list_of c) (updates_of c))
