-- Where a match closes, to go on anew: at a frame up to which all words are known.
use Rattle.std.specs.Prelude.{◌≡◌, ℕ, ◌<◌, ◌≤◌, min, List, map, false, take, ◌⊎◌, IsSome}
use Rattle.std.specs.Option.{option_map_or}
use Rattle.roll_mesh.specs.Laws.{has_at, is_gone, left_of}
use Rattle.roll_mesh.specs.Words.{WordStep, words_at, words_played, counted}
use Rattle.roll_mesh.specs.Worlds.{Match, World, Step, played}

-- machine i knows all words of player p before frame f: it has so many, or the player has left it
abbrev pub IsKnown : World → ℕ → ℕ → ℕ → Type 0
IsKnown world i p f = (f ≤ has_at world i p) ⊎ IsSome (left_of world i p)

-- how many words of player p machine i counts before frame f: fewer if the player left before
abbrev pub closed_at : World → ℕ → ℕ → ℕ → ℕ
closed_at world i p f = option_map_or (λ n. min n f) (left_of world i p) f

-- two machines of which neither regards the other as gone, and that know all words before a frame,
-- count as many of each player before it
abbrev pub TheyCloseAlike : Type 0
TheyCloseAlike =
    (match : Match) (steps : List Step) (i j p f : ℕ) → i < match.machines → j < match.machines
    → IsKnown (played match steps) i p f → IsKnown (played match steps) j p f
    → is_gone (played match steps) i j ≡ false → is_gone (played match steps) j i ≡ false
    → closed_at (played match steps) i p f ≡ closed_at (played match steps) j p f

-- and two machines that count as many words of a player before a frame have the same ones,
-- whoever regards whom as gone
abbrev pub OfOneCountOnePast : Type 0
OfOneCountOnePast =
    (match : Match) (steps : List WordStep) (i j p f : ℕ) → i < match.machines → j < match.machines
    → IsKnown (played match (map counted steps)) i p f
    → IsKnown (played match (map counted steps)) j p f
    → closed_at (played match (map counted steps)) i p f
    ≡ closed_at (played match (map counted steps)) j p f
    → take (closed_at (played match (map counted steps)) i p f)
    (words_at (words_played match steps) i p)
    ≡ take (closed_at (played match (map counted steps)) j p f)
    (words_at (words_played match steps) j p)
