-- Inputs and disconnects: when each is refused, and what it changes.
use Rattle.std.specs.Prelude.{ℕ, ◌+◌, ◌-◌, List, [], ◌∷◌, ◌++◌, length, not, Bool, true, false, ◌&&◌, nat_lt, nat_le, ◌==◌, Option, None, if◌then◌else◌, slice_get, slice_set, slice_index}
use Rattle.std.specs.Option.{option_map_or}
use Rattle.roll_frame.specs.declared.refusal.Refusal.{Refusal}
use Rattle.roll_frame.specs.declared.refusal.Refusal.TheVariants.{InvalidPlayer, InputTwice, PredictionThreshold, FrameLimit, PlayerDisconnected, Conflict, Gap, QueueFull}
use Rattle.roll_frame.specs.declared.limits.TheConstants.{QUEUE_LIMIT}
use Rattle.roll_frame.specs.Timeline.{Player, front}

-- players are numbered from 1
abbrev pub player_at : List Player → ℕ → Option Player
player_at players p = if p == 0 then None else slice_get players (p - 1)

-- whether there is such a player, and the test holds of it
abbrev pub of_player : (Player → Bool) → List Player → ℕ → Bool
of_player test players p = option_map_or test (player_at players p) false

-- the players after player p changed
abbrev pub changed : (Player → Player) → List Player → ℕ → List Player
changed change players p = option_map_or (λ player. slice_set players (p - 1) (change player)) (player_at players p) players

-- the tests of a local word: no local player p; its word given in this frame already; the frame is the
-- threshold past the front; the last frame
abbrev pub local_tests : List Player → ℕ → ℕ → ℕ → ℕ → List (Bool × Refusal)
local_tests players frame threshold limit p =
    (not (of_player (λ player. player.local) players p), InvalidPlayer)
    ∷ (of_player (λ player. player.given) players p, InputTwice)
    ∷ (nat_le (front players + threshold) frame, PredictionThreshold)
    ∷ (frame == limit, FrameLimit)
    ∷ []

-- whether a remote word of frame f was taken before
abbrev pub is_repeated : List Player → ℕ → ℕ → ℕ → Bool
is_repeated players p f word =
    of_player (λ player. not player.local && (not player.gone && (nat_lt f (length player.words) && (slice_index player.words f == word)))) players p

-- the tests of a remote word of frame f that was not taken before: no remote player p; gone; another word
-- was confirmed; an earlier one is missing; 128 words past the settled frame
abbrev pub remote_tests : List Player → ℕ → ℕ → ℕ → List (Bool × Refusal)
remote_tests players base p f =
    (not (of_player (λ player. not player.local) players p), InvalidPlayer)
    ∷ (of_player (λ player. player.gone) players p, PlayerDisconnected)
    ∷ (of_player (λ player. nat_lt f (length player.words)) players p, Conflict)
    ∷ (of_player (λ player. nat_lt (length player.words) f) players p, Gap)
    ∷ (of_player (λ player. nat_le QUEUE_LIMIT (length player.words - base)) players p, QueueFull)
    ∷ []

-- the tests of a disconnect: no remote player p; gone already
abbrev pub disconnect_tests : List Player → ℕ → List (Bool × Refusal)
disconnect_tests players p =
    (not (of_player (λ player. not player.local) players p), InvalidPlayer)
    ∷ (of_player (λ player. player.gone) players p, PlayerDisconnected)
    ∷ []

abbrev pub with_words : List ℕ → Player → Player
with_words words player = record player { words = player.words ++ words }

abbrev pub with_given : ℕ → Player → Player
with_given word player = record player { words = player.words ++ word ∷ []; given = true }

abbrev pub with_gone : Player → Player
with_gone player = record player { gone = true }

abbrev pub with_none_given : Player → Player
with_none_given player = record player { given = false }
