-- A branch as the saved states see it.
use Rattle.std.specs.Prelude.{◌≡◌, ◌≤◌, ◌<◌, ℕ, ◌+◌, ◌-◌, List, [], ◌∷◌, ◌++◌, length, drop, take, slice_index_or, max, not, All, Bool, nat_lt, nat_le, ◌&&◌, IsSomeAnd}
use Rattle.roll_frame.specs.declared.limits.TheConstants.{PATH_LIMIT}
use Rattle.roll_frame.specs.declared.refusal.Refusal.{Refusal}
use Rattle.roll_frame.specs.declared.refusal.Refusal.TheVariants.{Stranger, TooFar, Late, Orphan, Dead, TreeFull}
use Rattle.roll_frame.specs.declared.route.Route.{Route}
use Rattle.roll_frame.specs.Cells.{Rows}
use Rattle.roll_frame.specs.Games.{Value}
use Rattle.roll_frame.specs.Grafts.{are_rows_of, same_value}
use Rattle.roll_frame.specs.Paths.{longest, run}
use Rattle.roll_frame.specs.Timeline.{timeline}
use Rattle.roll_branch.specs.Routed.{Routed}
use Rattle.roll_inputs.specs.Boards.{Inputs}
use Rattle.roll_laws.specs.Grafted.{possible_rows}
use Rattle.roll_tree.specs.SavedStates.{paths_of, state_named}
use Rattle.roll_session.specs.Saves.{Standing}
use Rattle.roll_session.specs.Seen.{Step}
use Rattle.roll_session.specs.declared.place.Place.{Place}

-- the rows from the path's base on
abbrev pub rows_of_route : Route → Rows
rows_of_route route = route.path.rows.items ++ route.rows.items

-- where the branch starts and ends, from frame 0
abbrev pub start_of : Route → ℕ
start_of route = route.path.base + length route.path.rows.items

abbrev pub end_of : Route → ℕ
end_of route = route.path.base + length (rows_of_route route)

-- where it may be new from
abbrev pub anchor_of : Inputs → Route → ℕ
anchor_of inputs route = max (start_of route) inputs.settled

-- its rows past the settled frame
abbrev pub ahead_of : Inputs → Route → Rows
ahead_of inputs route = drop (inputs.settled - route.path.base) (rows_of_route route)

-- how far it is possible
abbrev pub possible_to : Inputs → Route → ℕ
possible_to inputs route = route.path.base + possible_rows route.path.base inputs.players (rows_of_route route)

module _ {S : Type 0} where
  -- how far it is kept
  abbrev pub kept_to : Standing S → Route → ℕ
  kept_to s route = s.inputs.settled + longest (paths_of s.tree) (ahead_of s.inputs route)

  -- how many states it adds
  abbrev pub count_new : Standing S → Route → ℕ
  count_new s route = possible_to s.inputs route - kept_to s route

  -- the tests of where it runs
  abbrev pub place_tests : Standing S → Route → List (Bool × Refusal)
  place_tests s route =
      (nat_lt s.inputs.settled route.path.base, Stranger)
      ∷ (not (are_rows_of (length s.inputs.players) (rows_of_route route)), Stranger)
      ∷ (nat_lt (s.inputs.settled + PATH_LIMIT) (end_of route), TooFar)
      ∷ (nat_le (end_of route) s.inputs.settled, Late)
      ∷ (nat_lt (possible_to s.inputs route) (anchor_of s.inputs route), Dead)
      ∷ (nat_lt (kept_to s route) (anchor_of s.inputs route), Orphan)
      ∷ []

  -- the test whether there is room for what it adds
  abbrev pub has_no_room : ℕ → Standing S → Route → Bool
  has_no_room most s route = nat_lt 0 (count_new s route) && nat_lt most (length s.tree.states + count_new s route)

  -- the tests that follow, of a branch whose state at its anchor is the saved one, or not
  abbrev pub there_tests : ℕ → Bool → Standing S → Route → List (Bool × Refusal)
  there_tests most same s route = (not same, Stranger) ∷ (has_no_room most s route, TreeFull) ∷ []

  -- what a route comes to
  pub record IsPlaceFor (s : Standing S) (route : Route) (place : Place) : Type 0 where
    pub ahead : place.ahead.items ≡ ahead_of s.inputs route
    pub possible : place.possible_to ≡ possible_to s.inputs route
    pub kept : place.kept_to ≡ kept_to s route
    pub node : IsSomeAnd (state_named s.tree place.node)
        (λ u. u.path ≡ take (longest (paths_of s.tree) (ahead_of s.inputs route)) (ahead_of s.inputs route))

  -- whether the branch's state at the anchor is worth what the rows there lead to from the opening, where its first
  -- state has this value
  abbrev pub is_same_there : Step → Value → Standing S → Route → Value → Bool
  is_same_there step opening s route from =
      same_value (run step from (take (anchor_of s.inputs route - start_of route) route.rows.items))
      (run step opening (timeline s.inputs.players s.inputs.settled ++ take (anchor_of s.inputs route - s.inputs.settled) (ahead_of s.inputs route)))

  -- the tests of a branch, where branches may fill most kept states
  abbrev pub branch_tests : Step → Value → ℕ → Standing S → Routed → List (Bool × Refusal)
  branch_tests step opening most s branch =
      place_tests s branch.route
      ++ there_tests most (is_same_there step opening s branch.route branch.from) s branch.route

  -- whatever a snapshot is worth: where each saved one is worth what is wanted of its path, and each new state of
  -- the branch too, they are so together
  abbrev pub KeepsWorth : Standing S → Standing S → Route → List S → Type 0
  KeepsWorth old new route states =
      (value : S → Value) (want : Rows → Value) → All (λ s. value s.snapshot ≡ want s.path) old.tree.states
      → ((frame : ℕ) (d : S) → kept_to old route ≤ frame → frame < possible_to old.inputs route → value (slice_index_or states (frame - start_of route) d) ≡ want (take (frame + 1 - old.inputs.settled) (ahead_of old.inputs route)))
      → All (λ s. value s.snapshot ≡ want s.path) new.tree.states
