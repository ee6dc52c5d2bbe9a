-- The core state of a session: what is possible, settled and kept, and what a roll does.
use Rattle.std.specs.Prelude.{◌≡◌, ℕ, suc, ◌-◌, List, [], ◌∷◌, ◌++◌, length, min, filter, not, Bool, true, false, ◌&&◌, ◌||◌, nat_lt, nat_le, Option, Some, None}
use Rattle.roll_frame.specs.declared.row.Cell.{Cell}
use Rattle.roll_frame.specs.declared.settings.Settings.{Settings}
use Rattle.roll_frame.specs.Cells.{Rows, cell_eq}
use Rattle.roll_frame.specs.Timeline.{Player, cell_at, timeline, front}
use Rattle.roll_frame.specs.Paths.{contains, longest, prefixes}
use Rattle.roll_frame.specs.Settings.{first_players}

-- the last roll: the length of the path that it started from, the timeline's rows up to its end, and the
-- settled frame and the kept paths from before it
pub record Roll : Type 0 where
  pub from : ℕ
  pub time : Rows
  pub settled : ℕ
  pub kept : List Rows

-- the frame that a roll ended at
abbrev pub end_of : Roll → ℕ
end_of roll = length roll.time

-- all that the replies depend on. ever has the paths of all states that were ever saved; shown is the
-- path of the state shown; logged counts the log's entries
pub record Core : Type 0 where
  pub players : List Player
  pub frame : ℕ
  pub ever : List Rows
  pub shown : Option Rows
  pub last : Option Roll
  pub logged : ℕ

-- at first the opening is saved, and shown
abbrev pub first_core : Settings → Core
first_core settings = record { players = first_players settings; frame = 0; ever = [] ∷ []; shown = Some []; last = None; logged = 0 }

-- whether the player's cell at frame t is known: confirmed, or of a player who is gone
abbrev pub is_known : ℕ → Player → Bool
is_known t player = nat_lt t (length player.words) || player.gone

-- a cell that is known is the timeline's
abbrev pub cell_possible : ℕ → Player → Cell → Bool
cell_possible t player cell = not (is_known t player) || cell_eq cell (cell_at t player)

-- one cell for each player, each of them possible
abbrev pub row_possible : ℕ → List Player → List Cell → Bool
row_possible t [] [] = true
row_possible t [] (cell ∷ cells) = false
row_possible t (player ∷ players) [] = false
row_possible t (player ∷ players) (cell ∷ cells) = cell_possible t player cell && row_possible t players cells

-- whether the rows, from frame t on, are possible
abbrev pub possible_from : ℕ → List Player → Rows → Bool
possible_from t players [] = true
possible_from t players (row ∷ rows) = row_possible t players row && possible_from (suc t) players rows

-- whether each row of a path has a cell for each player, the known ones those of the timeline
abbrev pub is_possible : List Player → Rows → Bool
is_possible players path = possible_from 0 players path

-- the settled frame: the length of the longest saved path that begins the confirmed timeline up to the frame
abbrev pub settled : Core → ℕ
settled core = longest core.ever (timeline core.players (min (front core.players) core.frame))

-- whether a saved path can still matter where the settled frame is base: no shorter than that, and possible
abbrev pub is_live : ℕ → List Player → Rows → Bool
is_live base players path = nat_le base (length path) && is_possible players path

-- the saved paths that can still matter
abbrev pub kept : Core → List Rows
kept core = filter (is_live (settled core) core.players) core.ever

-- the length of the longest saved path that begins the timeline's first m rows: where a roll to m starts
abbrev pub depth : Core → ℕ → ℕ
depth core m = longest core.ever (timeline core.players m)

-- how many frames a roll to m advances the game
abbrev pub cost : Core → ℕ → ℕ
cost core m = m - depth core m

-- the first j paths that a roll to m adds
abbrev pub rolled_paths : Core → ℕ → ℕ → List Rows
rolled_paths core m j = prefixes (timeline core.players m) (depth core m) j

-- the core after a roll to m, but for the paths that it adds
abbrev pub rolled : Core → ℕ → Core
rolled core m =
    record core {
      shown = Some (timeline core.players m);
      last = Some (record { from = depth core m; time = timeline core.players m; settled = settled core; kept = kept core });
    }

-- a plan of a roll to m: a saved path, and rows that lead on from it to the timeline's first m. It costs
-- as many frames as it has rows
pub record IsPlan (core : Core) (m : ℕ) (path rows : Rows) : Type 0 where
  pub saved : contains core.ever path ≡ true
  pub leads : path ++ rows ≡ timeline core.players m
