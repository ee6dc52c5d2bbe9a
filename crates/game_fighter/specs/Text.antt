-- The text of a state.
use Rattle.std.specs.Prelude.{ℕ, List, ◌++◌, codes}
use Rattle.std.specs.Fmt.{decimal}
use Rattle.game_fighter.specs.declared.fighter.Fighter.{Fighter}
use Rattle.game_fighter.specs.declared.state.State.{State}
use Rattle.game_fighter.specs.Values.{state_of}

abbrev pub readiness_text : Fighter → List ℕ
readiness_text fighter = codes " cool " ++ decimal fighter.cool

abbrev pub fighter_text : Fighter → List ℕ
fighter_text fighter = decimal fighter.place ++ (codes " hp " ++ (decimal fighter.health ++ readiness_text fighter))

-- as p1 300 hp 100 cool 0 | p2 700 hp 100 cool 0
abbrev pub state_text : State → List ℕ
state_text state = codes "p1 " ++ (fighter_text state.one ++ (codes " | p2 " ++ fighter_text state.two))

-- of the state that a value stands for
abbrev pub value_text : List ℕ → List ℕ
value_text value = state_text (state_of value)
