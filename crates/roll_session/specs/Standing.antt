-- The kept paths beside the timeline, from the settled frame on.
use Rattle.std.specs.Prelude.{ℕ, ◌+◌, List, ◌++◌, map, drop}
use Rattle.roll_frame.specs.Cells.{Rows}
use Rattle.roll_frame.specs.Core.{Core, Roll, settled}
use Rattle.roll_frame.specs.Order.{in_order}
use Rattle.roll_frame.specs.Timeline.{Player, timeline}
use Rattle.roll_plan.specs.Plans.{PlannedRoll}

-- so many rows of the timeline from a frame on
abbrev pub rows_from : List Player → ℕ → ℕ → Rows
rows_from players from count = drop from (timeline players (from + count))

-- the settled rows of a core
abbrev pub settled_rows : Core → Rows
settled_rows core = timeline core.players (settled core)

-- paths from the settled frame on, from frame 0
abbrev pub from_start : Rows → List Rows → List Rows
from_start settled paths = map (λ q. settled ++ q) paths

-- a roll, from the frame on that was settled before it
abbrev pub as_planned : Roll → PlannedRoll
as_planned roll =
    record {
      settled = roll.settled;
      kept = in_order (map (drop roll.settled) roll.kept);
      time = drop roll.settled roll.time;
      from = roll.from;
    }
