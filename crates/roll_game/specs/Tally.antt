-- The step of the tally.
use Rattle.std.specs.Prelude.{ℕ, suc, ◌+◌, ◌*◌, ◌%◌, List, [], ◌∷◌, slice_index}
use Rattle.roll_frame.specs.declared.row.Cell.{Cell}
use Rattle.roll_frame.specs.declared.row.Cell.TheVariants.{Word, Gone}

-- what player p adds: p times the word, and 5 where the player is gone
abbrev pub share : ℕ → Cell → ℕ
share p (Word word) = p * word
share p Gone = 5

-- what the players of a row add, the first of them player p
abbrev pub shares : ℕ → List Cell → ℕ
shares p [] = 0
shares p (cell ∷ cells) = share p cell + shares (suc p) cells

-- a tally's value is one number, the sum: ten times as much and what the players add, modulo a million
abbrev pub tally_step : List ℕ → List Cell → List ℕ
tally_step value row = ((10 * slice_index value 0 + shares 1 row) % 1000000) ∷ []
