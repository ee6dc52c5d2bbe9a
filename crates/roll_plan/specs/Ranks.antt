-- What is taken down of the states of a tree.
use Rattle.std.specs.Prelude.{◌≡◌, ℕ, suc, ◌-◌, ◌<◌, length, take, slice_index_or, IsSomeAnd, List, [], ◌∷◌, ◌&&◌, nat_lt, nat_le, Bool, Option, None, option_map, IsSome, if◌then◌else◌}
use Rattle.std.specs.List.{cons_option}
use Rattle.std.specs.Option.{option_map_or}
use Rattle.roll_frame.specs.Cells.{Rows}
use Rattle.roll_frame.specs.declared.claim.Differ.{Differ}
use Rattle.roll_frame.specs.declared.path.Path.{Path}
use Rattle.roll_frame.specs.Order.{frames_of}
use Rattle.roll_tree.specs.SavedStates.{IsAbove, SavedStates, state_named}
use Rattle.roll_frame.specs.Claims.{least_place}
use Rattle.roll_plan.specs.declared.planner.Taken.{Taken}

-- the entries that are made of these, the first of them at this place
abbrev pub entries_by : {X : Type 0} → (ℕ → X → Option Differ) → ℕ → List X → List Differ
entries_by entry place [] = []
entries_by entry place (x ∷ xs) = cons_option (entry place x) (entries_by entry (suc place) xs)

-- whether a path ends where a plan starts, or before
abbrev pub is_before : ℕ → Path → Bool
is_before from path = nat_le (frames_of path) from

-- whether a plan between these frames passes over a path
abbrev pub is_passed : ℕ → ℕ → Path → Bool
is_passed from to path = nat_lt from (frames_of path) && nat_le (frames_of path) to

module _ {S : Type 0} where
  -- the path of the state of this name, and no rows where there is none
  abbrev pub path_named : SavedStates S → ℕ → Rows
  path_named t name = option_map_or (λ s. s.path) (state_named t name) []

  -- a state of this name is kept
  abbrev pub IsKept : SavedStates S → ℕ → Type 0
  IsKept t name = IsSome (state_named t name)

  -- the names of the states on the way of these rows but for the root, the deepest first
  pub record IsWay (t : SavedStates S) (rows : Rows) (names : List ℕ) : Type 0 where
    pub count : length names ≡ length rows
    pub each : (k : ℕ) → k < length names → IsSomeAnd (state_named t (slice_index_or names k 0)) (λ s. s.path ≡ take (length rows - k) rows)

  -- what is taken down of the state of this name
  pub record IsTaken (t : SavedStates S) (name : ℕ) (k : Taken) : Type 0 where
    pub node : k.node ≡ name
    pub above : IsAbove t (path_named t name) k.above
    pub depth : k.depth ≡ length (path_named t name) - 1

  -- the entry of a path by its marks
  abbrev pub entry_by_marks : SavedStates S → ℕ → Path → Option Differ
  entry_by_marks t state path = option_map (λ place. record { state = state; frame = place.0; player = place.1 }) (least_place t.base path.rows.items t.time)

  -- the same where a plan between these frames passes over the path
  abbrev pub marked_for : SavedStates S → ℕ → ℕ → ℕ → Path → Option Differ
  marked_for t from to state path = if is_passed from to path then entry_by_marks t state path else None
