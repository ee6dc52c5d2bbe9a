-- The paths of a plan's kept states. Those on the way to its start are beginnings of the rows that lead there; of each of the
-- others only what is above it is known.
use Rattle.std.specs.Prelude.{ℕ, zero, suc, List, [], ◌∷◌, ◌++◌, ◌==◌, position, slice_index_or, take}
use Rattle.std.specs.Option.{option_map_or}
use Rattle.roll_frame.specs.Cells.{Rows}
use Rattle.roll_tree.specs.declared.tree.Above.{Above}
use Rattle.roll_plan.specs.declared.planner.Taken.{Taken}

-- the first so many beginnings of rows: that of no rows, of one row, and so on
abbrev pub beginnings : Rows → ℕ → List Rows
beginnings rows zero = []
beginnings rows (suc n) = beginnings rows n ++ take n rows ∷ []

-- the path of the state of this name: of one of those before, whose paths are these, or else so many rows of the way
abbrev pub path_before : Rows → List Taken → List Rows → ℕ → ℕ → Rows
path_before way before paths name depth =
    option_map_or (λ place. slice_index_or paths place []) (position (λ k. k.node == name) before) (take depth way)

-- the path of the next state
abbrev pub path_in : Rows → List Taken → List Rows → Taken → Rows
path_in way before paths k = option_map_or (λ (above : Above). path_before way before paths above.node k.depth ++ above.row ∷ []) k.above []

-- the paths of these states and of those before, each of which comes after the one above it
abbrev pub spelled_on : Rows → List Taken → List Rows → List Taken → List Rows
spelled_on way before paths [] = paths
spelled_on way before paths (k ∷ ks) = spelled_on way (before ++ k ∷ []) (paths ++ path_in way before paths k ∷ []) ks

abbrev pub spelled : Rows → List Taken → List Rows
spelled way taken = spelled_on way [] [] taken

-- the paths of the states off the way, and of so many on it
abbrev pub all_paths : Rows → ℕ → List Taken → List Rows
all_paths way on_way taken = spelled way taken ++ beginnings way on_way
