-- The record of settled rows as its callers see it, and how it is packed.
use Rattle.std.specs.Prelude.{◌≡◌, ◌≤◌, ◌*◌, ◌/◌, ℕ, List, [], ◌∷◌, drop, length, min, vec_capacity}
use Rattle.roll_frame.specs.Cells.{Rows}
use Rattle.roll_frame.specs.Packed.{cells_of}
use Rattle.roll_frame.specs.declared.limits.TheConstants.{PLAYER_LIMIT}
use Rattle.roll_inputs.specs.declared.record.Record.TheInside.{Inside}

-- the rows from frame 0 on, how many cells each of them has, and for how many rows there is room in all
pub record Recorded : Type 0 where
  pub players : ℕ
  pub rows : Rows
  pub room : ℕ

-- the rows of these masks of gone players, whose words stand behind one another, so many for each row
abbrev pub rows_of : ℕ → List ℕ → List ℕ → Rows
rows_of players [] words = []
rows_of players (gone ∷ masks) words = cells_of players gone words ∷ rows_of players masks (drop players words)

abbrev pub recorded : Inside → Recorded
recorded r = record {
  players = r.players;
  rows = rows_of r.players r.gone.items r.words.items;
  room = min (vec_capacity r.gone) (vec_capacity r.words / r.players);
}

-- 1 to 8 words for each mask
pub record IsRecord (r : Inside) : Type 0 where
  pub some : 1 ≤ r.players
  pub few : r.players ≤ PLAYER_LIMIT
  pub full : length r.words.items ≡ length r.gone.items * r.players
