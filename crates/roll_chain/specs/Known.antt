-- Cells and rows, if they are known.
use Rattle.std.specs.Prelude.{ℕ, List, Option, Some, None, if◌then◌else◌}
use Rattle.roll_frame.specs.Core.{is_known}
use Rattle.roll_frame.specs.Timeline.{Player, cell_at, row_at}
use Rattle.roll_frame.specs.declared.row.Cell.{Cell}
use Rattle.roll_peer.specs.Known.{is_row_known}

abbrev pub known_cell : ℕ → Player → Option Cell
known_cell t player = if is_known t player then Some (cell_at t player) else None

-- the timeline's row of frame t, if it is known
abbrev pub known_row : List Player → ℕ → Option (List Cell)
known_row players t = if is_row_known players t then Some (row_at players t) else None
