-- Whether words have to be handed over, so that the session needn't wait for them.
use Rattle.std.specs.Prelude.{◌≡◌, ◌≢◌, ℕ, ◌+◌, List, length, not, Bool, true, ◌==◌, ◌&&◌, nat_le, Some}
use Rattle.roll_frame.specs.Inputs.{of_player}
use Rattle.roll_frame.specs.Timeline.{front}
use Rattle.roll_frame.specs.declared.refusal.Refusal.TheVariants.{PredictionThreshold}
use Rattle.roll_inputs.specs.declared.remote_word.RemoteWord.{RemoteWord}
use Rattle.roll_session.specs.Changes.{after_advance, local_refusal}
use Rattle.roll_session.specs.Seen.{Seen}

-- whether a session's next frame is its threshold past the front
abbrev pub stands_next : Seen → Bool
stands_next s = nat_le (front s.core.players + s.settings.threshold) (s.core.frame + 1)

-- words wait for such a session
abbrev pub is_pressed : Seen → List RemoteWord → Bool
is_pressed s words = not (length words == 0) && stands_next s

-- once it has come to its next frame, it refuses the word of each local player for its threshold
abbrev pub RefusesNext : Seen → Type 0
RefusesNext s =
    (p : ℕ) → of_player (λ player. player.local) s.core.players p ≡ true
    → local_refusal (after_advance s) p ≡ Some PredictionThreshold

-- it refuses none for that
abbrev pub TakesNext : Seen → Type 0
TakesNext s = (p : ℕ) → local_refusal (after_advance s) p ≢ Some PredictionThreshold
