-- A script that is being played, as its callers see it.
use Rattle.roll_frame.specs.Games.{Game, Value}
use Rattle.roll_frame.specs.declared.settings.Settings.{Settings}
use Rattle.roll_session.specs.Seen.{Step}
use Rattle.prog_scripts.specs.Output.{Playing}

-- how its session was opened, and what it has come to
pub record Played : Type 0 where
  pub settings : Settings
  pub opening : Value
  pub now : Playing

abbrev pub game_of : Step → Played → Game
game_of step played = record { opening = played.opening; step = step }
