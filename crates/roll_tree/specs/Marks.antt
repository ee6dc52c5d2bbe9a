-- Where rows differ from the timeline's.
use Rattle.std.specs.Prelude.{◌≡◌, ℕ, ◌+◌, ◌<◌, List, length, Bool, false, not, Option, slice_get, if◌then◌else◌}
use Rattle.std.specs.Int.{bit_at}
use Rattle.std.specs.Option.{option_map_or, option_eq}
use Rattle.roll_frame.specs.declared.row.Cell.{Cell}
use Rattle.roll_frame.specs.Cells.{Rows, cell_eq}
use Rattle.roll_frame.specs.Claims.{cell_in}

-- whether two rows have different cells at a place, from 0: a cell that only one of them has differs
abbrev pub differ_at : List Cell → List Cell → ℕ → Bool
differ_at row there place = not (option_eq cell_eq (slice_get row place) (slice_get there place))

-- the same of a row and the timeline's row of its frame, where that is known
abbrev pub differs : Option (List Cell) → List Cell → ℕ → Bool
differs there row place = option_map_or (λ t. differ_at row t place) there false

abbrev pub bit_of : Bool → ℕ
bit_of b = if b then 1 else 0

-- the marks of a row, computed afresh: the bit at place p - 1 tells whether player p's cell differs from the
-- timeline's. Where the timeline's row isn't known, there are none
abbrev pub AreMarks : Option (List Cell) → List Cell → ℕ → Type 0
AreMarks there row marks = (place : ℕ) → bit_at marks place ≡ bit_of (differs there row place)

-- the rows have the cells that the time has, which begins in frame base, but for a player's, from 1, in this frame
-- and later
abbrev pub AreSameBut : ℕ → ℕ → ℕ → Rows → Rows → Type 0
AreSameBut player from base time rows =
    (place k : ℕ) → place < length time → (k + 1 ≡ player → base + place < from) → cell_in rows place k ≡ cell_in time place k
