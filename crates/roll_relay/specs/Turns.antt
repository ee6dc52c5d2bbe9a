-- For how many turns words were held back.
use Rattle.std.specs.Prelude.{ℕ, ◌-◌, List, ◌∷◌, map, take, slice_index_or}
use Rattle.roll_relay.specs.declared.held.TheConstants.{TURN_LIMIT}

-- of the words that wait, how many of the first have waited one turn or more, two turns or more, and so on: once a turn is over in
-- which so many wait
abbrev pub after_turn : (words : ℕ) → List ℕ → List ℕ
after_turn words waited = words ∷ take (TURN_LIMIT - 1) waited

-- how many have waited for so many turns
abbrev pub due : (turns : ℕ) → List ℕ → ℕ
due turns waited = slice_index_or waited (turns - 1) 0

-- without the first so many words
abbrev pub lessened : ℕ → List ℕ → List ℕ
lessened count waited = map (λ n. n - count) waited
