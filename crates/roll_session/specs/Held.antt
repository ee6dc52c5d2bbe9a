-- What the fields of a session keep.
use Rattle.std.specs.Prelude.{◌≡◌, ◌≤◌, ◌+◌, List, length, Option, option_map, Some, None}
use Rattle.roll_frame.specs.Cells.{Rows}
use Rattle.roll_frame.specs.Core.{Core, kept, settled}
use Rattle.roll_frame.specs.Events.{replay}
use Rattle.roll_frame.specs.Games.{Value}
use Rattle.roll_frame.specs.Paths.{run}
use Rattle.roll_frame.specs.declared.entry.Entry.{Entry}
use Rattle.roll_frame.specs.declared.settings.Settings.{Settings}
use Rattle.roll_frame.specs.declared.limits.TheConstants.{PLAYER_LIMIT, FRAME_LIMIT, LOG_LIMIT}
use Rattle.roll_inputs.specs.Boards.{Inputs}
use Rattle.roll_laws.specs.Sessions.{IsLog}
use Rattle.roll_plan.specs.Plans.{Planned}
use Rattle.roll_tree.specs.SavedStates.{paths_of}
use Rattle.roll_session.specs.Logs.{Filed}
use Rattle.roll_session.specs.Saves.{Standing, HaveValues}
use Rattle.roll_session.specs.Seen.{Step}
use Rattle.roll_session.specs.declared.room.Room.{Room}
use Rattle.roll_session.specs.Standing.{from_start, as_planned, settled_rows}

-- a state is shown where rows are, and has the value that they lead to
abbrev pub Shows : {S : Type 0} → (S → Value) → Step → Value → Option Rows → Option S → Type 0
Shows value step x None None = Unit {0}
Shows value step x None (Some state) = ⊥
Shows value step x (Some rows) None = ⊥
Shows value step x (Some rows) (Some state) = value state ≡ run step x rows

-- the inputs of a core
abbrev pub inputs_of : Settings → Core → Inputs
inputs_of settings core =
    record { players = core.players; frame = core.frame; settled = settled core; threshold = settings.threshold; limit = settings.limit }

-- the saved states are those kept, with the values that their paths lead to from the opening
pub record IsKept {N : Type 0} (value : N → Value) (step : Step) (opening : Value) (settings : Settings) (core : Core) (standing : Standing N) : Type 0 where
  pub inputs : standing.inputs ≡ inputs_of settings core
  pub kept_is : from_start (settled_rows core) (paths_of standing.tree) ≡ kept core
  pub values : HaveValues value step opening (settled_rows core) standing.tree.states

-- the last plan is that of the core's last roll
abbrev pub planned_of : Settings → Core → Planned
planned_of settings core = record { players = settings.players; last = option_map as_planned core.last }

-- what the laws say of the core that a log leads to
pub record IsSmall (settings : Settings) (log : List Entry) (core : Core) : Type 0 where
  pub some : 1 ≤ length core.players
  pub few : length core.players ≤ PLAYER_LIMIT
  pub frame : core.frame ≤ FRAME_LIMIT
  pub logged : core.logged ≡ length log
  pub fits : length log ≤ settings.log
  pub most : settings.log ≤ LOG_LIMIT

pub record IsSession {S N : Type 0} (state_value : S → Value) (snapshot_value : N → Value) (step : Step) (opening : Value) (settings : Settings) (log : List Entry) (saves : Standing N) (planner : Planned) (current : Option S) : Type 0 where
  pub is_log : IsLog settings (record { opening = opening; step = step }) log
  pub kept : IsKept snapshot_value step opening settings (replay settings log) saves
  pub shows : Shows state_value step opening (replay settings log).shown current
  pub plan : planner ≡ planned_of settings (replay settings log)
  pub small : IsSmall settings log (replay settings log)

-- events more need no memory, those that were promised and maybe others: the log has room for their entries, and the record for the rows that they can settle
pub record HasRoom {N : Type 0} (log : Filed) (saves : Standing N) (room : Room) : Type 0 where
  pub promised : room.promised ≤ room.there
  pub entries : room.there ≤ log.room
  pub rows : saves.inputs.frame + room.there ≤ saves.room
