-- What every state of a fight keeps to.
use Rattle.std.specs.Prelude.{◌≤◌}
use Rattle.game_fighter.specs.declared.fighter.Fighter.{Fighter}
use Rattle.game_fighter.specs.declared.state.State.{State}

pub record IsFighter (fighter : Fighter) : Type 0 where
  pub place_in : fighter.place ≤ 999
  pub health_in : fighter.health ≤ 100
  pub cool_in : fighter.cool ≤ 12

pub record IsState (state : State) : Type 0 where
  pub one_in : IsFighter state.one
  pub two_in : IsFighter state.two
