-- The timeline: confirmed words, then predictions.
use Rattle.std.specs.Prelude.{ℕ, zero, suc, List, [], ◌∷◌, ◌++◌, length, map, min, filter, not, Bool, nat_lt, if◌then◌else◌, slice_index, bit_and}
use Rattle.roll_frame.specs.declared.row.Cell.{Cell}
use Rattle.roll_frame.specs.declared.row.Cell.TheVariants.{Word, Gone}
use Rattle.roll_frame.specs.Cells.{Rows}

-- what is known of one player: the confirmed words from frame 0 on, its word before frame 0, which bits of a word are
-- predicted as held, whether it is local, whether it is gone, and whether its word of this frame was given
pub record Player : Type 0 where
  pub words : List ℕ
  pub before : ℕ
  pub mask : ℕ
  pub local : Bool
  pub gone : Bool
  pub given : Bool

-- the last of the confirmed words, or the word before them where there is none
abbrev pub last_word : ℕ → List ℕ → ℕ
last_word before [] = before
last_word before (word ∷ words) = last_word word words

-- the word that a player is predicted to give
abbrev pub predicted : Player → ℕ
predicted player = bit_and (last_word player.before player.words) player.mask

-- a player's cell at frame t: confirmed, gone, or predicted
abbrev pub cell_at : ℕ → Player → Cell
cell_at t player =
    if nat_lt t (length player.words) then Word (slice_index player.words t)
    else (if player.gone then Gone else Word (predicted player))

-- row t of the timeline
abbrev pub row_at : List Player → ℕ → List Cell
row_at players t = map (cell_at t) players

-- the first m rows of the timeline
abbrev pub timeline : List Player → ℕ → Rows
timeline players zero = []
timeline players (suc m) = timeline players m ++ row_at players m ∷ []

-- the least number, or 0 where there is none
abbrev pub least_of : List ℕ → ℕ
least_of [] = 0
least_of (n ∷ []) = n
least_of (n ∷ m ∷ ns) = min n (least_of (m ∷ ns))

-- how many rows are confirmed by all players that are not gone (a local player never is, so there is one)
abbrev pub front : List Player → ℕ
front players = least_of (map (λ player. length player.words) (filter (λ player. not player.gone) players))
