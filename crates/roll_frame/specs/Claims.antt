-- The claim of a roll, and when a claim is right.
use Rattle.std.specs.Prelude.{◌≡◌, ℕ, suc, ◌+◌, ◌-◌, ◌<◌, ◌≤◌, List, [], ◌∷◌, length, drop, map, Bool, true, ◌&&◌, nat_eq, nat_lt, nat_le, Option, Some, None, option_map, if◌then◌else◌, slice_get, All, IsSomeAnd, count_by}
use Rattle.std.specs.Option.{option_map_or}
use Rattle.std.specs.List.{cons_option, list_any}
use Rattle.roll_frame.specs.declared.limits.TheConstants.{FRAME_LIMIT, PLAYER_LIMIT, PATH_LIMIT}
use Rattle.roll_frame.specs.declared.row.Cell.{Cell}
use Rattle.roll_frame.specs.declared.path.Path.{Path}
use Rattle.roll_frame.specs.declared.claim.Claim.{Claim}
use Rattle.roll_frame.specs.declared.claim.Differ.{Differ}
use Rattle.roll_frame.specs.Cells.{Rows, cell_eq}
use Rattle.roll_frame.specs.Paths.{begins_with}
use Rattle.roll_frame.specs.Order.{frames_of, in_order}
use Rattle.roll_frame.specs.Core.{Roll, end_of}

-- the frame that the roll went to
abbrev pub target_of : Claim → ℕ
target_of claim = claim.base + length claim.time

-- deeper than the start, and not past the end
abbrev pub IsDeeper : Claim → Path → Type 0
IsDeeper claim path = (claim.from < frames_of path) × (frames_of path ≤ target_of claim)

abbrev pub AreRowsOf : ℕ → Rows → Type 0
AreRowsOf players rows = All (λ row. length row ≡ players) rows

pub record IsShaped (claim : Claim) : Type 0 where
  pub base : claim.base ≤ FRAME_LIMIT
  pub some : 1 ≤ claim.players
  pub few : claim.players ≤ PLAYER_LIMIT
  pub short : length claim.time ≤ PATH_LIMIT
  pub time : AreRowsOf claim.players claim.time
  pub kept : All (λ path. (path.base ≡ claim.base) × AreRowsOf claim.players path.rows.items) claim.kept

-- whether the roll can have started from this path: it is from frames long, and begins the time
abbrev pub is_start : Claim → Path → Bool
is_start claim path =
    nat_eq (frames_of path) claim.from && nat_le claim.from (target_of claim) && begins_with claim.time path.rows.items

-- the cell at a place of a row, where both are there; player 1 is at place 0
abbrev pub cell_of_row : Option (List Cell) → ℕ → Option Cell
cell_of_row None place = None
cell_of_row (Some row) place = slice_get row place

abbrev pub cell_in : Rows → ℕ → ℕ → Option Cell
cell_in rows frame place = cell_of_row (slice_get rows frame) place

-- the path is deeper than the start, and the entry has a frame of the path's rows, and a player
pub record IsOnPath (claim : Claim) (entry : Differ) (path : Path) : Type 0 where
  pub deeper : IsDeeper claim path
  pub from : claim.base ≤ entry.frame
  pub below : entry.frame < frames_of path
  pub first : 1 ≤ entry.player
  pub last : entry.player ≤ claim.players

-- path and time have the same cell at the entry's place
abbrev pub IsSame : Claim → Differ → Path → Type 0
IsSame claim entry path = cell_in path.rows.items (entry.frame - claim.base) (entry.player - 1) ≡ cell_in claim.time (entry.frame - claim.base) (entry.player - 1)

-- an entry is of the path, which differs from the time at the entry's place
pub record IsTrueEntry (claim : Claim) (entry : Differ) (path : Path) : Type 0 where
  pub on_path : IsOnPath claim entry path
  pub differs : IsSame claim entry path → ⊥

abbrev pub is_for : ℕ → Differ → Bool
is_for place entry = nat_eq entry.state place

-- a claim is right where it has its shape, a kept path is the start, each entry names a kept path and is
-- true of it, and the deeper path at each place has exactly one entry
pub record IsRight (claim : Claim) : Type 0 where
  pub shape : IsShaped claim
  pub start : list_any (is_start claim) claim.kept ≡ true
  pub entries : All (λ entry. IsSomeAnd (slice_get claim.kept entry.state) (IsTrueEntry claim entry)) claim.differs
  pub once : (place : ℕ) (path : Path) → slice_get claim.kept place ≡ Some path → IsDeeper claim path → count_by (is_for place) claim.differs ≡ 1

-- the least player, from 1, whose cells differ in two rows: a cell that only one of them has differs
abbrev pub place_of : List Cell → List Cell → Option ℕ
place_of [] [] = None
place_of (cell ∷ cells) (other ∷ others) = if cell_eq cell other then option_map suc (place_of cells others) else Some 1
place_of cells others = Some 1

-- the least frame in which two lists of rows have different rows, the first of both in frame t, and the least player
-- whose cells differ there
abbrev pub least_place : ℕ → Rows → Rows → Option (ℕ × ℕ)
least_place t (row ∷ rows) (other ∷ others) = option_map_or (λ p. Some (t, p)) (place_of row other) (least_place (suc t) rows others)
least_place t rows others = None

-- whether a roll passed over a path: deeper than its start, and not past its end
abbrev pub is_passed : Roll → Rows → Bool
is_passed roll path = nat_lt roll.from (length path) && nat_le (length path) (end_of roll)

-- the entry of a path that was passed over, which is at this place of the kept ones
abbrev pub differ_of : Roll → ℕ → Rows → Option Differ
differ_of roll state path =
    if is_passed roll path then option_map (λ place. record { state = state; frame = place.0; player = place.1 }) (least_place 0 path roll.time)
    else None

abbrev pub differs_from : Roll → ℕ → List Rows → List Differ
differs_from roll state [] = []
differs_from roll state (path ∷ paths) = cons_option (differ_of roll state path) (differs_from roll (suc state) paths)

-- a path from frame 0, as the first base rows and its own
abbrev pub path_from : ℕ → Rows → Path
path_from base path = record { base = base; rows = record { items = drop base path } }

-- the claim of a roll: the paths kept before it, in order, and an entry for each that it passed over
abbrev pub claim_of : ℕ → Roll → Claim
claim_of players roll =
    record {
      players = players;
      base = roll.settled;
      time = drop roll.settled roll.time;
      kept = map (path_from roll.settled) (in_order roll.kept);
      from = roll.from;
      differs = differs_from roll 0 (in_order roll.kept);
    }
