-- Slots, and the states and jobs that have some.
use Rattle.std.specs.Prelude.{◌≡◌, ◌≢◌, ◌<◌, ◌≤◌, ℕ, List, length, take, slice_index_or, All, Bool, true, false, ◌&&◌, ◌||◌, ◌==◌, filter, not, Some}
use Rattle.std.specs.List.{list_any, range_with_len}
use Rattle.roll_frame.specs.declared.limits.TheConstants.{BRANCH_LIMIT}
use Rattle.roll_frame.specs.declared.route.Route.{Route}
use Rattle.roll_requests.specs.declared.job.TheConstants.{JOBS_OUT}
use Rattle.roll_requests.specs.declared.limits.TheConstants.{SLOTS}
use Rattle.roll_tree.specs.SavedStates.{Saved}
use Rattle.slab.specs.Slab.{Slab, entries, get, slab_len}

-- a job that is out: where it runs, the slot of the state that it starts from, and those of its states, in their order
pub record Guessed : Type 0 where
  pub route : Route
  pub start : ℕ
  pub slots : List ℕ

-- whether a slot is taken; those past the last are not
abbrev pub is_taken : List Bool → ℕ → Bool
is_taken taken slot = slice_index_or taken slot false

abbrev pub IsTaken : List Bool → ℕ → Type 0
IsTaken taken slot = is_taken taken slot ≡ true

-- whether a slot is one of these
abbrev pub is_among : List ℕ → ℕ → Bool
is_among slots slot = list_any (λ other. other == slot) slots

-- whether a job has a slot, for one of its states or for the one that it starts from
abbrev pub holds : Guessed → ℕ → Bool
holds job slot = job.start == slot || is_among job.slots slot

-- whether a saved state has it
abbrev pub is_saved : List (Saved ℕ) → ℕ → Bool
is_saved states slot = list_any (λ u. u.snapshot == slot) states

-- whether a job that is out has it
abbrev pub is_out : Slab Guessed → ℕ → Bool
is_out jobs slot = list_any (λ out. holds out.1 slot) (entries jobs)

-- whether any of them has it
abbrev pub is_needed : List (Saved ℕ) → Slab Guessed → ℕ → Bool
is_needed states jobs slot = is_saved states slot || is_out jobs slot

-- the slots below a limit that are not in use, in their order
abbrev pub free_slots : (ℕ → Bool) → ℕ → List ℕ
free_slots is_used limit = filter (λ slot. not (is_used slot)) (range_with_len 0 limit)

-- the first of them
abbrev pub least_free : (ℕ → Bool) → (limit count : ℕ) → List ℕ
least_free is_used limit count = take count (free_slots is_used limit)

-- whether a slot is taken that nothing holds
abbrev pub is_unheld : List Bool → List Bool → ℕ → Bool
is_unheld taken held slot = is_taken taken slot && not (is_taken held slot)

-- the slots of a job are taken, and that of the state that it starts from
pub record IsHeld (taken : List Bool) (job : Guessed) : Type 0 where
  pub start : IsTaken taken job.start
  pub slots : All (IsTaken taken) job.slots

-- the slots of the saved states and of the jobs that are out are taken
pub record AreTaken (states : List (Saved ℕ)) (jobs : Slab Guessed) (taken : List Bool) : Type 0 where
  pub saved : All (λ u. IsTaken taken u.snapshot) states
  pub out : (n : ℕ) (job : Guessed) → get jobs n ≡ Some job → IsHeld taken job

-- this slot is none of those
abbrev pub IsOutside : List ℕ → ℕ → Type 0
IsOutside slots slot = All (λ other. other ≢ slot) slots

-- no saved state, and no other job, has a slot of a job's states
pub record AreOwn (states : List (Saved ℕ)) (jobs : Slab Guessed) : Type 0 where
  pub saved : (n : ℕ) (job : Guessed) → get jobs n ≡ Some job → All (λ u. IsOutside job.slots u.snapshot) states
  pub others : (n m : ℕ) (job other : Guessed) → n ≢ m → get jobs n ≡ Some job → get jobs m ≡ Some other
      → All (IsOutside job.slots) other.slots

-- the slots of the saved states, of the jobs and of the current state are taken, and those of a job's states are its own
pub record IsSlotted (states : List (Saved ℕ)) (jobs : Slab Guessed) (at : ℕ) (taken : List Bool) : Type 0 where
  pub are : AreTaken states jobs taken
  pub own : AreOwn states jobs
  pub current : IsTaken taken at

-- these slots are below the limit, not taken, and each past those before it
pub record AreFree (limit : ℕ) (taken : List Bool) (slots : List ℕ) : Type 0 where
  pub free : All (λ slot. is_taken taken slot ≡ false) slots
  pub below : All (λ slot. slot < limit) slots
  pub rising : (i k d : ℕ) → i < k → k < length slots
      → slice_index_or slots i d < slice_index_or slots k d

-- there are places for these slots
abbrev pub AreWithin : List Bool → List ℕ → Type 0
AreWithin taken slots = All (λ slot. slot < length taken) slots

-- and for all that a job holds
pub record HasPlaces (taken : List Bool) (job : Guessed) : Type 0 where
  pub start : job.start < length taken
  pub slots : AreWithin taken job.slots

-- no slot is past the last that there is; no more jobs are out than may be, and each has a slot for each row of a branch at most
pub record AreLimited (limit : ℕ) (jobs : Slab Guessed) : Type 0 where
  pub slots : limit ≤ SLOTS
  pub out : slab_len jobs ≤ JOBS_OUT
  pub rows : (n : ℕ) (job : Guessed) → get jobs n ≡ Some job → length job.slots ≤ BRANCH_LIMIT
