-- A state as a list of numbers, which is all that a session knows of it.
use Rattle.std.specs.Prelude.{ℕ, ◌+◌, List, [], ◌∷◌, slice_index}
use Rattle.fazgrond.specs.Cell.{Cell}
use Rattle.game_fighter.specs.declared.fighter.Fighter.{Fighter}
use Rattle.game_fighter.specs.declared.state.State.{State}
use Rattle.game_fighter.specs.Frame.{frame_of}

-- each number has its place in the list
abbrev pub value_of : State → List ℕ
value_of state =
    state.one.place ∷ state.one.health ∷ state.one.cool ∷ state.two.place ∷ state.two.health ∷ state.two.cool ∷ []

-- and is read from there; a place that a list doesn't have reads 0
abbrev pub fighter_at : ℕ → List ℕ → Fighter
fighter_at at value =
    record { place = slice_index value at; health = slice_index value (at + 1); cool = slice_index value (at + 2) }

abbrev pub state_of : List ℕ → State
state_of value = record { one = fighter_at 0 value; two = fighter_at 3 value }

-- what a session is told: the value after a frame
abbrev pub step : List ℕ → List Cell → List ℕ
step value row = value_of (frame_of (state_of value) row)
