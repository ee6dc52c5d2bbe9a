-- Laws of words that are held back.
use Rattle.std.specs.Prelude.{◌≡◌, ℕ, List}
use Rattle.std.specs.Option.{option_map}
use Rattle.roll_frame.specs.Inputs.{player_at, with_words}
use Rattle.roll_inputs.specs.declared.remote_word.RemoteWord.{RemoteWord}
use Rattle.roll_session.specs.Answered.{IsPlayed}
use Rattle.roll_session.specs.Seen.{FollowsLog, Seen, Step}
use Rattle.roll_relay.specs.Told.{asked_words, told, words_among, Fits}

-- once a session is told words that were held back, it is the session that heard them as remote words, in the order in which they came:
-- so all that holds of sessions holds of it, and each player has given the words that it had, and then its words among these
pub record AreHeard (step : Step) (s : Seen) (words : List RemoteWord) : Type 0 where
  pub played : IsPlayed step s (told s words) (asked_words words)
  pub follows : FollowsLog step (told s words)
  pub players : (p : ℕ) → player_at (told s words).core.players p
      ≡ option_map (with_words (words_among words p)) (player_at s.core.players p)

abbrev pub HeldWordsAreHeard : Type 0
HeldWordsAreHeard = (step : Step) (s : Seen) (words : List RemoteWord) → FollowsLog step s → Fits s words
    → AreHeard step s words
