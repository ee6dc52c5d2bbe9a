-- What a contract sees of a `Tree`.
use Rattle.std.specs.Prelude.{◌≡◌, ℕ, ◌+◌, ◌-◌, ◌≤◌, ◌<◌, ◌^◌, ◌==◌, List, [], ◌∷◌, ◌++◌, length, map, take, drop, not, Bool, true, false, Option, Some, None, IsSome, IsSomeAnd, if◌then◌else◌}
use Rattle.std.specs.List.{find}
use Rattle.std.specs.Option.{option_map_or}
use Rattle.roll_frame.specs.declared.row.Cell.{Cell}
use Rattle.roll_frame.specs.declared.limits.TheConstants.{PATH_LIMIT}
use Rattle.roll_frame.specs.declared.path.Path.{Path}
use Rattle.roll_frame.specs.Cells.{Rows, cell_eq}
use Rattle.roll_frame.specs.Claims.{cell_in}
use Rattle.roll_frame.specs.Paths.{contains}
use Rattle.roll_tree.specs.Marks.{AreSameBut}
use Rattle.roll_tree.specs.declared.tree.Above.{Above}

-- a saved state: its name, the rows that lead to it from the base, and its snapshot
pub record Saved (S : Type 0) : Type 0 where
  pub name : ℕ
  pub path : Rows
  pub snapshot : S

-- the frame of the root, the root's name, the states in the order in which they came, and the timeline's rows
-- from the root's frame on, as they were last told
pub record SavedStates (S : Type 0) : Type 0 where
  pub base : ℕ
  pub root : ℕ
  pub states : List (Saved S)
  pub time : Rows

module _ {S : Type 0} where
  -- the state of this name
  abbrev pub state_named : SavedStates S → ℕ → Option (Saved S)
  state_named t name = find (λ s. s.name == name) t.states

  abbrev pub paths_of : SavedStates S → List Rows
  paths_of t = map (λ s. s.path) t.states

  -- the tree with one state more
  abbrev pub with_state : SavedStates S → Saved S → SavedStates S
  with_state t s = record t { states = t.states ++ s ∷ [] }

  -- a state one row below this one fits, and isn't there
  pub record CanGrow (t : SavedStates S) (parent : ℕ) (row : List Cell) : Type 0 where
    pub kept : IsSome (state_named t parent)
    pub short : (s : Saved S) → state_named t parent ≡ Some s → length s.path < PATH_LIMIT
    pub frames : (s : Saved S) → state_named t parent ≡ Some s → t.base + length s.path + 1 < 2 ^ 32
    pub fresh : (s : Saved S) → state_named t parent ≡ Some s → contains (paths_of t) (s.path ++ row ∷ []) ≡ false

  -- the rows may become the timeline's: those that were known differ in a player's cells alone, from this frame on
  pub record CanMark (t : SavedStates S) (player from : ℕ) (rows : Rows) : Type 0 where
    pub short : length rows ≤ PATH_LIMIT
    pub long : length t.time ≤ length rows
    pub same : AreSameBut player from t.base t.time rows

  -- the timeline's rows up to a frame
  abbrev pub time_to : SavedStates S → ℕ → Rows
  time_to t to = take (to - t.base) t.time

  -- the state as it is seen from so many frames later
  abbrev pub later : ℕ → Saved S → Saved S
  later frames s = record s { path = drop frames s.path }

  -- each front of a path that is kept is kept
  abbrev pub IsClosed : SavedStates S → Type 0
  IsClosed t = (name : ℕ) (s : Saved S) (k : ℕ) → state_named t name ≡ Some s → contains (paths_of t) (take k s.path) ≡ true

  -- no two states have the same path
  abbrev pub IsDistinct : SavedStates S → Type 0
  IsDistinct t = (j k : ℕ) (s u : Saved S) → state_named t j ≡ Some s → state_named t k ≡ Some u → s.path ≡ u.path → j ≡ k

  -- what is above a state of this path: nothing where it has no rows, else the state and the row that it is made of
  abbrev pub IsAbove : SavedStates S → Rows → Option Above → Type 0
  IsAbove t path None = path ≡ []
  IsAbove t path (Some above) = IsSomeAnd (state_named t above.node) (λ s. path ≡ s.path ++ above.row ∷ [])

  -- each state comes after the one above it
  abbrev pub IsOrdered : SavedStates S → Type 0
  IsOrdered t =
      (before after : List (Saved S)) (s u : Saved S) (row : List Cell) → t.states ≡ before ++ s ∷ after → state_named t u.name ≡ Some u → s.path ≡ u.path ++ row ∷ []
      → find (λ x. x.name == u.name) before ≡ Some u

-- a path of these rows from the base on
abbrev pub path_of : ℕ → Rows → Path
path_of base rows = record { base = base; rows = record { items = rows } }

-- the cell of a player, from 1, in the row at a place of a path, where there is one
abbrev pub cell_of : ℕ → ℕ → Rows → Option Cell
cell_of player place path = if player == 0 then None else cell_in path place (player - 1)

-- whether a path has another cell than this there
abbrev pub has_other : ℕ → ℕ → Cell → Rows → Bool
has_other player place cell path = option_map_or (λ c. not (cell_eq c cell)) (cell_of player place path) false
