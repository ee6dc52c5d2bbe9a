-- How the session of the next epoch goes on from that of this one, whose epoch ends at a frame.
use Rattle.std.specs.Prelude.{ℕ, ◌+◌, List, map, take, slice_index, slice_index_or}
use Rattle.std.specs.List.{range_with_len}
use Rattle.roll_frame.specs.declared.limits.TheConstants.{DELAY_LIMIT}
use Rattle.roll_frame.specs.declared.settings.Settings.{Settings}
use Rattle.roll_frame.specs.Timeline.{last_word}
use Rattle.roll_mesh.specs.declared.limits.TheConstants.{PLAYER_LIMIT}
use Rattle.roll_session.specs.Headline.{words_of}
use Rattle.roll_session.specs.Seen.{Seen}

-- the words of the player at a place
abbrev pub words_in : Seen → ℕ → List ℕ
words_in s p = words_of s (p + 1)

-- its word before frame 0
abbrev pub before_of : Seen → ℕ → ℕ
before_of s p = slice_index s.settings.before p

-- its last word before a frame
unfoldable pub last_before : Seen → ℕ → ℕ → ℕ
last_before s p end = last_word (before_of s p) (take end (words_in s p))

-- its word of a frame, or else its last one
unfoldable pub given_at : Seen → ℕ → ℕ → ℕ
given_at s p frame = slice_index_or (words_in s p) frame (last_word (before_of s p) (words_in s p))

-- its words from a frame on, as many as the longest delay has frames
abbrev pub given_after : Seen → ℕ → ℕ → List ℕ
given_after s p end = map (λ k. given_at s p (end + k)) (range_with_len 0 DELAY_LIMIT)

abbrev pub settings_after : Seen → ℕ → Settings
settings_after s end = record s.settings {
  before = map (λ p. last_before s p end) (range_with_len 0 PLAYER_LIMIT);
  first = map (λ p. given_after s p end) (range_with_len 0 PLAYER_LIMIT);
}
