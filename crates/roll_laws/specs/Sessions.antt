-- Logs that events left, so that a session can keep how it came about.
use Rattle.std.specs.Prelude.{◌≡◌, List, None}
use Rattle.roll_frame.specs.declared.entry.Entry.{Entry}
use Rattle.roll_frame.specs.declared.settings.Settings.{Settings}
use Rattle.roll_frame.specs.Games.{Game}
use Rattle.roll_frame.specs.Settings.{start_refusal}
use Rattle.roll_frame.specs.Events.{CoreEvent, log_of}

-- events of a session that starts, which leave this log
pub record IsLog (settings : Settings) (game : Game) (log : List Entry) : Type 0 where
  pub starts : start_refusal settings ≡ None
  pub events : List CoreEvent
  pub left : log ≡ log_of settings game events
