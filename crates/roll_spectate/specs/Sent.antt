-- What a session's spectators are sent.
use Rattle.std.specs.Prelude.{◌≡◌, ◌⊎◌, ◌≤◌, ℕ, ◌+◌, List, ◌++◌, length, take}
use Rattle.roll_frame.specs.Cells.{Rows}
use Rattle.roll_frame.specs.Events.{replay}
use Rattle.roll_frame.specs.Games.{Game}
use Rattle.roll_frame.specs.declared.entry.Entry.{Entry}
use Rattle.roll_frame.specs.declared.settings.Settings.{Settings}
use Rattle.roll_laws.specs.Sessions.{IsLog}
use Rattle.roll_session.specs.Standing.{settled_rows}
use Rattle.roll_spectate.specs.Rings.{Ring}
use Rattle.roll_spectate.specs.declared.limits.TheConstants.{RING_ROWS}

-- rows are the first of all of these, in order
abbrev pub IsFirstPart : Rows → Rows → Type 0
IsFirstPart rows all = rows ≡ take (length rows) all

-- a spectator's ring, the rows that were sent by it, and how many of them the sender knows to be taken
pub record Fed : Type 0 where
  pub ring : Ring
  pub rows : Rows
  pub taken : ℕ

-- the ring is full: as far as the sender knows, when it has asked the ring, 64 rows wait in it
abbrev pub IsFilled : Fed → Type 0
IsFilled fed = length fed.rows ≡ RING_ROWS + fed.taken

-- these rows more were sent, and no fewer are known to be taken
pub record IsSentMore (more : Rows) (old new : Fed) : Type 0 where
  pub ring : new.ring ≡ old.ring
  pub rows : new.rows ≡ old.rows ++ more
  pub taken : old.taken ≤ new.taken

-- a spectator before and after a push: more of the settled rows were sent, as far as those before were the first of them; and
-- all of them, unless the ring is full
pub record IsFed (settled : Rows) (old new : Fed) : Type 0 where
  pub ring : new.ring ≡ old.ring
  pub taken : old.taken ≤ new.taken
  pub grown : IsFirstPart old.rows new.rows
  pub first : IsFirstPart old.rows settled → IsFirstPart new.rows settled
  pub all : (length settled ≤ length new.rows) ⊎ IsFilled new

-- while a session's log grows, what was a first part of its settled rows stays one
abbrev pub SentRowsStay : Type 0
SentRowsStay =
    (settings : Settings) (game : Game) (log more : List Entry) (rows : Rows) → IsLog settings game (log ++ more)
    → IsFirstPart rows (settled_rows (replay settings log)) → IsFirstPart rows (settled_rows (replay settings (log ++ more)))
