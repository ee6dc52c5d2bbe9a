-- Rows that are known: of each player the word of the frame has come, or it has left before.
use Rattle.std.specs.Prelude.{◌≡◌, ◌<◌, ℕ, List, Bool, true}
use Rattle.std.specs.List.{list_all}
use Rattle.roll_frame.specs.Core.{is_known}
use Rattle.roll_frame.specs.Timeline.{Player}
use Rattle.roll_session.specs.Seen.{Seen}

-- whether the cell of each player at frame t is known
abbrev pub is_row_known : List Player → ℕ → Bool
is_row_known players t = list_all (is_known t) players

-- each row before a frame is known: so it never changes any more
abbrev pub IsKnownTo : Seen → ℕ → Type 0
IsKnownTo s frame = (t : ℕ) → t < frame → is_row_known s.core.players t ≡ true
