-- The rows that came to a viewer.
use Rattle.std.specs.Prelude.{◌≡◌, ◌⊎◌, ◌≤◌, ◌+◌, ℕ, List, [], ◌∷◌, ◌++◌, length, take, drop}
use Rattle.roll_frame.specs.Cells.{Rows}
use Rattle.roll_frame.specs.declared.limits.TheConstants.{FRAME_LIMIT}
use Rattle.roll_frame.specs.declared.row.Cell.{Cell}
use Rattle.roll_spectate.specs.Sent.{Fed, IsFilled}
use Rattle.roll_viewer.specs.declared.queue.TheConstants.{WAITING_LIMIT}

-- how many came, and those of them that wait to be taken
pub record Queued : Type 0 where
  pub count : ℕ
  pub waiting : Rows

-- one row more came
abbrev pub with_next : List Cell → Queued → Queued
with_next row queue = record { count = queue.count + 1; waiting = queue.waiting ++ row ∷ [] }

-- so many were taken, from the first on
abbrev pub with_taken : ℕ → Queued → Queued
with_taken count queue = record queue { waiting = drop count queue.waiting }

-- no further row has a place: 64 wait, or as many came as a session has frames
abbrev pub IsFull : Queued → Type 0
IsFull queue = (WAITING_LIMIT ≤ length queue.waiting) ⊎ (FRAME_LIMIT ≤ queue.count)

-- so many rows were taken, and sent to a spectator: all that waited, unless its ring is full, or it was sent as many as a
-- session has frames
pub record IsHandedOn (old new : Queued) (before after : Fed) (count : ℕ) : Type 0 where
  pub taken : new ≡ with_taken count old
  pub ring : after.ring ≡ before.ring
  pub sent : after.rows ≡ before.rows ++ take count old.waiting
  pub few : count ≤ length old.waiting
  pub all : (length old.waiting ≤ count) ⊎ (IsFilled after ⊎ (FRAME_LIMIT ≤ length after.rows))
