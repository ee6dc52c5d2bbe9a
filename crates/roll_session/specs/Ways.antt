-- A roll in progress.
use Rattle.std.specs.Prelude.{◌≡◌, ◌≤◌, ℕ, ◌+◌, ◌-◌, length, IsSomeAnd}
use Rattle.roll_frame.specs.declared.limits.TheConstants.{PATH_LIMIT, TREE_LIMIT}
use Rattle.roll_tree.specs.SavedStates.{Saved, state_named}
use Rattle.roll_session.specs.Saves.{Standing, deepest_toward}
use Rattle.roll_session.specs.Standing.{rows_from}
use Rattle.roll_session.specs.declared.way.Way.{Way}

module _ {S : Type 0} where
  -- a roll stands at the deepest saved state on the timeline's way to its frame, and what is left of it fits
  pub record IsGoing (s : Standing S) (way : Way) : Type 0 where
    pub base : s.tree.base ≡ s.inputs.settled
    pub within : way.frame ≤ way.to
    pub near : way.to ≤ s.inputs.settled + PATH_LIMIT
    pub told : way.to ≤ s.inputs.settled + length s.tree.time
    pub deepest : way.frame ≡ s.inputs.settled + deepest_toward s way.to
    pub here : IsSomeAnd (state_named s.tree way.at) (λ u. u.path ≡ rows_from s.inputs.players s.inputs.settled (way.frame - s.inputs.settled))
    pub fits : length s.tree.states + (way.to - way.frame) ≤ TREE_LIMIT

  -- the state one row past this frame on the timeline
  abbrev pub next_state : Standing S → ℕ → ℕ → S → Saved S
  next_state s frame name snapshot = record { name = name; path = rows_from s.inputs.players s.inputs.settled (frame + 1 - s.inputs.settled); snapshot = snapshot }
