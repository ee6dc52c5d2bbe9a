-- Words that have come, but that a board isn't told yet: the players that they would make, and when they are refused.
use Rattle.std.specs.Prelude.{ℕ, ◌+◌, List, [], ◌∷◌, ◌++◌, length, map, filter, fold, not, Bool, nat_lt, ◌==◌, Option}
use Rattle.std.specs.Int.{is_in_range}
use Rattle.roll_frame.specs.declared.limits.TheConstants.{PATH_LIMIT}
use Rattle.roll_frame.specs.declared.refusal.Refusal.{Refusal}
use Rattle.roll_frame.specs.declared.refusal.Refusal.TheVariants.{InvalidPlayer, PlayerDisconnected, InvalidRequest}
use Rattle.roll_frame.specs.Inputs.{of_player, changed, with_words}
use Rattle.roll_frame.specs.Refusals.{first_refusal}
use Rattle.roll_frame.specs.Timeline.{Player}
use Rattle.roll_inputs.specs.Boards.{Inputs}
use Rattle.roll_inputs.specs.declared.remote_word.RemoteWord.{RemoteWord}
use Rattle.roll_inputs.specs.declared.remote_word.TheConstants.{FORETOLD_LIMIT}

-- the players after a word
abbrev pub told : List Player → RemoteWord → List Player
told players w = changed (with_words (w.word ∷ [])) players w.player

-- the players after these words, in the order in which they came
abbrev pub foretold : List Player → List RemoteWord → List Player
foretold players words = fold told players words

-- the words of player p among these
abbrev pub words_of : ℕ → List RemoteWord → List ℕ
words_of p words = map (λ w. w.word) (filter (λ w. w.player == p) words)

-- the tests of a word that is to be the next: no remote player; gone; not of the frame of the player's next word
abbrev pub next_tests : List Player → RemoteWord → List (Bool × Refusal)
next_tests players w =
    (not (of_player (λ player. not player.local) players w.player), InvalidPlayer)
    ∷ (of_player (λ player. player.gone) players w.player, PlayerDisconnected)
    ∷ (not (of_player (λ player. length player.words == w.frame) players w.player), InvalidRequest)
    ∷ []

-- those of each of these words, after the words before it
abbrev pub each_tests : List Player → List RemoteWord → List (Bool × Refusal)
each_tests players [] = []
each_tests players (w ∷ words) = next_tests players w ++ each_tests (told players w) words

-- not 1 to 64 words; and each of them
abbrev pub foretold_tests : List Player → List RemoteWord → List (Bool × Refusal)
foretold_tests players words = (not (is_in_range 1 FORETOLD_LIMIT (length words)), InvalidRequest) ∷ each_tests players words

-- the tests of the frame up to which rows are guessed, over this settled frame: not 1 to 24 rows past it; past the last frame
abbrev pub until_tests : ℕ → ℕ → ℕ → List (Bool × Refusal)
until_tests base limit until =
    (not (is_in_range (base + 1) (base + PATH_LIMIT) until), InvalidRequest)
    ∷ (nat_lt limit until, InvalidRequest)
    ∷ []

-- why words that aren't told yet are refused, if they are
abbrev pub foretold_refusal : List Player → List RemoteWord → Option Refusal
foretold_refusal players words = first_refusal (foretold_tests players words)

-- why a guess of what they make is refused, up to a frame
abbrev pub foretold_until_refusal : Inputs → List RemoteWord → ℕ → Option Refusal
foretold_until_refusal inputs words until = first_refusal (foretold_tests inputs.players words ++ until_tests inputs.settled inputs.limit until)
