-- What is asked of a game elsewhere.
use Rattle.std.specs.Prelude.{◌≡◌, ◌≢◌, ◌==◌, ◌<◌, ℕ, suc, zero, List, [], ◌∷◌, ◌++◌, length, slice_index, slice_index_or, All, Bool, true, false, Some, if◌then◌else◌, count_by}
use Rattle.slab.specs.Slab.{Slab, get}
use Rattle.roll_frame.specs.declared.row.Cell.{Cell}
use Rattle.roll_requests.specs.Slotted.{is_taken, is_unheld, Guessed}
use Rattle.roll_requests.specs.declared.request.Request.{Request}
use Rattle.roll_requests.specs.declared.request.Request.TheVariants.{Load, Save, Advance, Free, LoadAside, SaveAside, AdvanceAside}

-- requests that wait to be handed out, and how many more need no memory
pub record Queued : Type 0 where
  pub requests : List Request
  pub room : ℕ

-- the request for the state of a slot to be current, where that of another is
abbrev pub reaching : ℕ → ℕ → List Request
reaching at slot = if at == slot then [] else Load slot ∷ []

-- the requests to free those of the first n slots that are to be freed
abbrev pub frees : (ℕ → Bool) → ℕ → List Request
frees is_freed zero = []
frees is_freed (suc n) = frees is_freed n ++ (if is_freed n then Free n ∷ [] else [])

-- the requests to run the first n of some frames, and to save the state after each in its slot
abbrev pub runs : (List Cell → Request) → (ℕ → Request) → (ℕ → List Cell) → List ℕ → ℕ → List Request
runs advance save row slots zero = []
runs advance save row slots (suc n) =
    runs advance save row slots n ++ advance (row n) ∷ save (slice_index slots n) ∷ []

-- the requests of a roll: the state that it starts from is made current, slots that nothing holds are freed, and each next
-- state is run and saved
abbrev pub roll_requests : (at slot : ℕ) → (taken held : List Bool) → (ℕ → List Cell) → List ℕ → List Request
roll_requests at slot taken held row slots =
    reaching at slot ++ frees (is_unheld taken held) (length taken)
    ++ runs Advance Save row slots (length slots)

-- the requests to run the first n of some frames
abbrev pub advances : (ℕ → List Cell) → ℕ → List Request
advances row zero = []
advances row (suc n) = advances row n ++ Advance (row n) ∷ []

-- the requests of an end: the settled state is made current, so many frames are run from there, all slots are freed, and the state
-- is saved in slot 0
abbrev pub end_requests : (at slot : ℕ) → (taken : List Bool) → (ℕ → List Cell) → ℕ → List Request
end_requests at slot taken row count =
    reaching at slot ++ advances row count ++ frees (is_taken taken) (length taken) ++ Save 0 ∷ []

-- the last of some slots, or else this one: that of the state that a roll leads to
abbrev pub last_or : ℕ → List ℕ → ℕ
last_or slot slots = slice_index (slot ∷ slots) (length slots)

-- the requests of a job: it is run aside from the state in a slot
abbrev pub job_requests : ℕ → (ℕ → List Cell) → List ℕ → List Request
job_requests slot row slots =
    LoadAside slot ∷ runs AdvanceAside SaveAside row slots (length slots)

abbrev pub requests_of : Guessed → List Request
requests_of job =
    job_requests job.start (λ k. slice_index_or job.route.rows.items k []) job.slots

-- a request saves no state in a slot from the limit on
abbrev pub IsBelow : ℕ → Request → Type 0
IsBelow limit (Save slot) = slot < limit
IsBelow limit (SaveAside slot) = slot < limit
IsBelow limit request = Unit {0}

-- whether a request runs a frame, and whether it runs one aside
abbrev pub is_step : Request → Bool
is_step (Advance row) = true
is_step request = false

abbrev pub is_step_aside : Request → Bool
is_step_aside (AdvanceAside row) = true
is_step_aside request = false

-- whether it saves a state, and whether it saves one that was run aside
abbrev pub is_save : Request → Bool
is_save (Save slot) = true
is_save request = false

abbrev pub is_save_aside : Request → Bool
is_save_aside (SaveAside slot) = true
is_save_aside request = false

-- whether it makes another state current
abbrev pub is_load : Request → Bool
is_load (Load slot) = true
is_load request = false

-- a request leaves what is in this slot
abbrev pub Leaves : ℕ → Request → Type 0
Leaves slot (Save other) = slot ≢ other
Leaves slot (Free other) = slot ≢ other
Leaves slot (SaveAside other) = slot ≢ other
Leaves slot request = Unit {0}

-- nor does it read that
abbrev pub IsOff : ℕ → Request → Type 0
IsOff slot (Load other) = slot ≢ other
IsOff slot (LoadAside other) = slot ≢ other
IsOff slot request = Leaves slot request

-- a request is nothing to a job: the state that this starts from stays in its slot, and the slots of its states are not touched
pub record IsApart (job : Guessed) (request : Request) : Type 0 where
  pub start : Leaves job.start request
  pub slots : All (λ slot. IsOff slot request) job.slots

-- what is run aside is loaded first
abbrev pub IsBegun : List Request → Type 0
IsBegun [] = Unit {0}
IsBegun (LoadAside slot ∷ requests) = Unit {0}
IsBegun (SaveAside slot ∷ requests) = ⊥
IsBegun (AdvanceAside row ∷ requests) = ⊥
IsBegun (request ∷ requests) = IsBegun requests

-- requests were added that run so many frames, and so many aside, save as many states, only in slots below the limit, and are
-- nothing to the jobs that are out
pub record Adds (limit run aside : ℕ) (jobs : Slab Guessed) (old new : List Request) : Type 0 where
  pub more : List Request
  pub list_is : new ≡ old ++ more
  pub below : All (IsBelow limit) more
  pub run_is : count_by is_step more ≡ run
  pub aside_is : count_by is_step_aside more ≡ aside
  pub saves_are : count_by is_save more ≡ run
  pub saves_aside_are : count_by is_save_aside more ≡ aside
  pub begun : IsBegun more
  pub apart : (n : ℕ) (job : Guessed) → get jobs n ≡ Some job → All (IsApart job) more
