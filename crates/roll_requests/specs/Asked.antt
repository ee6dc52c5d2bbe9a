-- A session of a game elsewhere as its callers see it, and where its requests lead, for every game.
use Rattle.std.specs.Prelude.{◌≡◌, ◌⊎◌, ◌≤◌, ◌^◌, ℕ, ◌+◌, ◌-◌, ◌<◌, ◌||◌, ◌==◌, Bool, true, count_by, if◌then◌else◌, List, [], ◌++◌, is_some, length, take, slice_index_or, All, IfSome, IsSomeAnd, Option, Some, None, Result, Ok, Err}
use Rattle.std.specs.Option.{option_map_or}
use Rattle.roll_branch.specs.Routed.{Routed}
use Rattle.roll_frame.specs.Cells.{Rows}
use Rattle.roll_frame.specs.Core.{cost, depth}
use Rattle.roll_frame.specs.Events.{branch_of, is_accepted}
use Rattle.roll_frame.specs.Games.{Value}
use Rattle.roll_frame.specs.Grafts.{new_paths}
use Rattle.roll_frame.specs.Paths.{run}
use Rattle.roll_frame.specs.Timeline.{Player, timeline}
use Rattle.roll_frame.specs.declared.refusal.Refusal.{Refusal}
use Rattle.roll_frame.specs.declared.refusal.Refusal.TheVariants.{Full, NoJob, NoMemory}
use Rattle.roll_frame.specs.declared.reply.Reply.TheVariants.{Refused}
use Rattle.roll_frame.specs.declared.route.Route.{Route}
use Rattle.roll_session.specs.Answered.{IsReplied}
use Rattle.roll_session.specs.Calls.{event_of, IsRollTo}
use Rattle.roll_session.specs.Changes.{after_graft, graft_refusal, IsRefused, IsWhy}
use Rattle.roll_session.specs.Gameless.{bare_branch, still}
use Rattle.roll_session.specs.Saves.{Standing}
use Rattle.roll_session.specs.Seen.{IsLeast, Seen, Step, game_of}
use Rattle.roll_session.specs.declared.event.Call.{Call}
use Rattle.roll_session.specs.declared.event.Grafted.{Grafted}
use Rattle.roll_session.specs.declared.event.Reached.{Reached}
use Rattle.roll_session.specs.Standing.{rows_from}
use Rattle.roll_tree.specs.SavedStates.{Saved, SavedStates, state_named}
use Rattle.slab.specs.Slab.{Slab, get, slab_len, SameValues, Updates}
use Rattle.roll_requests.specs.Carried.{Elsewhere, carried_out}
use Rattle.roll_requests.specs.Planned.{LacksSlots}
use Rattle.roll_requests.specs.Requests.{is_load, requests_of, Adds}
use Rattle.roll_requests.specs.Slotted.{free_slots, is_among, is_needed, is_taken, least_free, Guessed}
use Rattle.roll_requests.specs.declared.declined.Declined.{Declined}
use Rattle.roll_requests.specs.declared.declined.Declined.TheVariants.{Refused as RefusedBy, NoSlots}
use Rattle.roll_requests.specs.declared.job.TheConstants.{JOBS_OUT}
use Rattle.roll_requests.specs.declared.request.Request.{Request}

pub record Asked : Type 0 where
  pub seen : Seen
  -- the timeline, and the slot of each saved state
  pub saves : Standing ℕ
  -- the slot that has the state that will be current
  pub at : ℕ
  -- what is still to be handed out
  pub requests : List Request
  -- new states are saved only in slots below this one
  pub limit : ℕ
  -- the jobs that are out, by their numbers
  pub jobs : Slab Guessed
  -- which slots will have a state
  pub taken : List Bool

-- each kept slot has the run of its path, and the slot of the current state has it
pub record IsThere (step : Step) (opening : Value) (saves : Standing ℕ) (at : ℕ) (there : Elsewhere Value) : Type 0 where
  pub held : All (λ u. there.slots u.snapshot ≡ Some (run step opening (timeline saves.inputs.players saves.inputs.settled ++ u.path))) saves.tree.states
  pub at_is : there.slots at ≡ Some there.current

-- the rows that lead to a job's state after so many of its rows, from frame 0
abbrev pub rows_of_job : List Player → Route → ℕ → Rows
rows_of_job players route n =
    timeline players route.path.base ++ (route.path.rows.items ++ take n route.rows.items)

-- each slot of a job has the run of the rows up to its state; they start from settled ones
pub record HasJob (step : Step) (opening : Value) (saves : Standing ℕ) (slots : ℕ → Option Value) (job : Guessed) : Type 0 where
  pub base : job.route.path.base ≤ saves.inputs.settled
  pub start : slots job.start ≡ Some (run step opening (rows_of_job saves.inputs.players job.route 0))
  pub held : (k d : ℕ) → k < length job.slots → slots (slice_index_or job.slots k d) ≡ Some (run step opening (rows_of_job saves.inputs.players job.route (k + 1)))

-- so it is for every game once what was handed out and what is to be handed out is carried out; the current state is the serial
-- run of the rows that are shown, and just the slots that are taken have a state
pub record Leads (past : List Request) (e : Asked) : Type 0 where
  pub there : (step : Step) (opening : Value) → IsThere step opening e.saves e.at (carried_out step opening (past ++ e.requests))
  pub shown : (step : Step) (opening : Value) → IfSome e.seen.core.shown (λ rows. (carried_out step opening (past ++ e.requests)).current ≡ run step opening rows)
  pub jobs : (step : Step) (opening : Value) (n : ℕ) (job : Guessed) → get e.jobs n ≡ Some job → HasJob step opening e.saves (carried_out step opening (past ++ e.requests)).slots job
  pub taken : (step : Step) (opening : Value) (slot : ℕ)
      → is_some ((carried_out step opening (past ++ e.requests)).slots slot) ≡ is_taken e.taken slot

-- nothing is changed, but that more is reserved and the tree was told more of the timeline
pub record IsIdle (old new : Asked) : Type 0 where
  pub seen : new.seen ≡ record old.seen { reserved = new.seen.reserved }
  pub saves : new.saves ≡ record old.saves { tree = record old.saves.tree { time = new.saves.tree.time } }
  pub at : new.at ≡ old.at
  pub requests : new.requests ≡ old.requests
  pub limit : new.limit ≡ old.limit
  pub jobs : new.jobs ≡ old.jobs
  pub taken : new.taken ≡ old.taken

-- a call is refused by the rules; or the rules accept it, and it needs more slots than are free, or memory ran out, which it doesn't
-- where an event was reserved and no request waits
abbrev pub IsDeclinedRoll : Seen → List (Saved ℕ) → Slab Guessed → List Request → (limit : ℕ) → Call → Declined → Type 0
IsDeclinedRoll s states jobs requests limit call (RefusedBy why) =
    IsReplied still s s (event_of call) (Refused why)
    ⊎ ((why ≡ NoMemory)
    × ((is_accepted s.settings (game_of still s) s.core (event_of call) ≡ true)
    × (requests ≡ [] → s.reserved ≡ 0)))
IsDeclinedRoll s states jobs requests limit call NoSlots = LacksSlots s states jobs limit call

-- after a roll of so many frames those slots are taken that a state has that was saved before it, or a job, and the first so many
-- of the others: whatever nothing needs any more is freed
abbrev pub TakesNeeded : (old new : Asked) → ℕ → Type 0
TakesNeeded old new count =
    (slot : ℕ) → is_taken new.taken slot
    ≡ (is_needed old.saves.tree.states old.jobs slot
    || is_among (least_free (is_needed old.saves.tree.states old.jobs) old.limit count) slot)

-- this slot has the saved state that is the timeline's at a frame
abbrev pub StartsIn : Standing ℕ → (from slot : ℕ) → Type 0
StartsIn saves from slot =
    (name : ℕ) × IsSomeAnd (state_named saves.tree name) (λ u. (u.snapshot ≡ slot)
    × (u.path ≡ rows_from saves.inputs.players saves.inputs.settled (from - saves.inputs.settled)))

-- a roll led there: it started from the frame of the deepest state on its way, and asks for the frames from there on, which are
-- the fewest that any plan runs; that state is loaded once, unless it is current
pub record Rolls (old new : Asked) (call : Call) (reached : Reached) : Type 0 where
  pub is_to : IsRollTo old.seen.core call reached.frame
  pub from_is : reached.from ≡ depth old.seen.core reached.frame
  pub rerun_is : reached.rerun ≡ cost old.seen.core reached.frame
  pub least : IsLeast old.seen.core reached.frame
  pub adds : Adds old.limit (cost old.seen.core reached.frame) 0 old.jobs old.requests new.requests
  pub start : ℕ
  pub starts : StartsIn old.saves reached.from start
  pub loads : count_by is_load adds.more ≡ (if old.at == start then 0 else 1)
  pub taken : TakesNeeded old new (cost old.seen.core reached.frame)

-- a job has this route, and a slot for the state after each row
pub record IsJob (job : Routed) (guessed : Guessed) : Type 0 where
  pub route : guessed.route ≡ job.route
  pub many : length guessed.slots ≡ length job.route.rows.items

-- the same slots are taken
abbrev pub SameTaken : List Bool → List Bool → Type 0
SameTaken old new = (slot : ℕ) → is_taken new slot ≡ is_taken old slot

-- a job was given a number that none had, and the first slots that weren't taken, and its requests were added
pub record IsGiven (job : Routed) (old new : Asked) (number : ℕ) : Type 0 where
  pub guessed : Guessed
  pub is_job : IsJob job guessed
  pub vacant : get old.jobs number ≡ None
  pub jobs : Updates old.jobs new.jobs number (Some guessed)
  pub requests : new.requests ≡ old.requests ++ requests_of guessed
  pub least : guessed.slots ≡ least_free (is_taken old.taken) old.limit (length guessed.slots)
  pub taken : (slot : ℕ) → is_taken new.taken slot ≡ (is_taken old.taken slot || is_among guessed.slots slot)

-- if there is nothing to run, there is none, and nothing is asked for
abbrev pub IsNumbered : Option Routed → Asked → Asked → Option ℕ → Type 0
IsNumbered None old new number =
    (number ≡ None)
    × (SameValues old.jobs new.jobs × ((new.requests ≡ old.requests) × (new.taken ≡ old.taken)))
IsNumbered (Some job) old new number = IsSomeAnd number (IsGiven job old new)

-- how many rows a job runs, if there is one
abbrev pub rows_to_run : Option Routed → ℕ
rows_to_run job = option_map_or (λ j. length j.route.rows.items) job 0

-- why there is no job: 64 are out, or the next number has no room in 32 bits, or the guess is refused, or memory ran out, or the
-- job has more rows than slots are free
abbrev pub IsNotGuessed : Option Refusal → Option Routed → Asked → Declined → Type 0
IsNotGuessed refusal job e (RefusedBy why) =
    ((why ≡ Full) × ((JOBS_OUT ≤ slab_len e.jobs) ⊎ (2 ^ 32 ≤ e.jobs.vacant_key)))
    ⊎ IsWhy refusal why
IsNotGuessed refusal job e NoSlots =
    (refusal ≡ None) × (length (free_slots (is_taken e.taken) e.limit) < rows_to_run job)

-- a job's branch was taken in, or refused, or there is no such job
abbrev pub IsHandedIn : Seen → Seen → Option Guessed → Result Grafted Refusal → Type 0
IsHandedIn old new None result = (result ≡ Err NoJob) × (new ≡ old)
IsHandedIn old new (Some job) (Ok grafted) =
    (graft_refusal still old (bare_branch 0 job.route) ≡ None)
    × (new ≡ after_graft old (bare_branch 0 job.route))
    × (grafted.added ≡ length (new_paths old.core (branch_of job.route)))
IsHandedIn old new (Some job) (Err why) =
    IsRefused (graft_refusal still old (bare_branch 0 job.route)) old new why

-- the slot of the saved state that has no rows past the settled frame
abbrev pub IsSettledSlot : SavedStates ℕ → ℕ → Type 0
IsSettledSlot tree slot =
    IsSomeAnd (state_named tree tree.root) (λ u. (u.path ≡ []) × (u.snapshot ≡ slot))
