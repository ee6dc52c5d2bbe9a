-- What a roll changed of the timeline, and what it ran again.
use Rattle.std.specs.Prelude.{◌+◌, ◌-◌, ◌^◌, ℕ, List, [], ◌∷◌, ◌++◌, min, nat_lt, Option, None, Some, if◌then◌else◌, slice_get}
use Rattle.std.specs.List.{filter_map, range_with_len}
use Rattle.std.specs.Option.{option_map_or}
use Rattle.prog_picture.specs.declared.scene.Cause.{Cause}
use Rattle.prog_picture.specs.declared.scene.Cause.TheVariants.{Word, Leaving, Nothing}
use Rattle.prog_picture.specs.declared.scene.Roll.{Roll}
use Rattle.roll_frame.specs.Cells.{Rows, row_eq}
use Rattle.roll_frame.specs.Claims.{place_of}
use Rattle.roll_frame.specs.Core.{Core, settled}
use Rattle.roll_frame.specs.Timeline.{row_at}
use Rattle.roll_frame.specs.declared.claim.Claim.{Claim}
use Rattle.roll_frame.specs.declared.row.Cell.{Cell}
use Rattle.roll_frame.specs.declared.row.Cell.TheVariants.{Gone}
use Rattle.prog_observer.specs.declared.change.Change.{Change}

-- the row of a frame, if it is settled
abbrev pub settled_row : Core → ℕ → Option (List Cell)
settled_row core frame = if nat_lt frame (settled core) then Some (row_at core.players frame) else None

-- the settled rows from a frame on, up to another
abbrev pub settled_rows : Core → ℕ → ℕ → Rows
settled_rows core low high = filter_map (settled_row core) (range_with_len low (high - low))

-- the timeline's rows from a frame on, up to the end of a roll: the settled ones before its claim's base, and the claim's own
abbrev pub rows_from : Core → Claim → ℕ → Rows
rows_from core claim low = settled_rows core low claim.base ++ claim.time

-- the frame after another, as far as the numbers of frames reach
abbrev pub frame_after : ℕ → ℕ
frame_after frame = min (frame + 1) (2 ^ 32 - 1)

-- the first row that is another now, where the rows begin with that of this frame
abbrev pub first_change : ℕ → Rows → Rows → Option Change
first_change frame [] after = None
first_change frame (old ∷ before) [] = None
first_change frame (old ∷ before) (new ∷ after) = if row_eq old new then first_change (frame_after frame) before after
    else Some (record { frame = frame; before = old; after = new })

-- what made a player's cell of a frame this one: the player left, or a word came
abbrev pub cause_at : Option Cell → ℕ → ℕ → Cause
cause_at (Some Gone) player frame = Leaving player frame
cause_at cell player frame = Word player frame

-- what made a row another one: the first cell that differs
abbrev pub cause_of : Change → Cause
cause_of change =
    let cause = λ (player : ℕ). cause_at (slice_get change.after (player - 1)) player change.frame in
    option_map_or cause (place_of change.after change.before) Nothing

-- the roll at a frame that started from another, where these rows were the timeline's before, and those are now, both from
-- frame `low` on. GGPO runs again from the first change on
abbrev pub roll_of : ℕ → ℕ → ℕ → Rows → Rows → Roll
roll_of at from low before after =
    let change = first_change low before after in
    record {
      at = at;
      rerun = at - from;
      ggpo = option_map_or (λ (change : Change). at - change.frame) change 0;
      cause = option_map_or cause_of change Nothing;
    }
