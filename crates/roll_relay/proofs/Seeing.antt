-- What is seen of a session that was told words.
use Rattle.std.proofs.Common.{◌≡◌, ◌∙◌, ℕ, ◌+◌, ◌-◌, ◌<◌, ◌≤◌, List, ◌++◌, length, refl, ap, sym, arith, Bool, true, false, Option, Some, None, length-append}
use Rattle.std.specs.Prelude.{slice_get}
use Rattle.std.specs.Option.{option_and_then, option_map, option_map_or}
use Rattle.std.proofs.lemmas.Bool.{le-ltb}
use Rattle.circular_buffer.proofs.Places.{slice_get-append_left, slice_get-append_right}
use Rattle.roll_frame.specs.Core.{settled}
use Rattle.roll_frame.specs.Inputs.{of_player, player_at, with_words}
use Rattle.roll_frame.specs.Timeline.{Player}
use Rattle.roll_frame.specs.declared.limits.TheConstants.{DELAY_LIMIT, FRAME_LIMIT, QUEUE_LIMIT}
use Rattle.roll_inputs.proofs.Players.{is_at}
use Rattle.roll_inputs.specs.Boards.{confirmed_word, source_at}
use Rattle.roll_inputs.specs.declared.remote_word.RemoteWord.{RemoteWord}
use Rattle.roll_laws.proofs.Bounds.{queues_are_short}
use Rattle.roll_laws.proofs.Fronts.{settled_is}
use Rattle.roll_laws.proofs.Sound.{Sound, sound_played}
use Rattle.roll_session.proofs.Following.{law_of, small_of}
use Rattle.roll_session.specs.Seen.{FollowsLog, Seen, Step}
use Rattle.roll_relay.specs.Told.{told, words_among}
use Rattle.roll_relay.proofs.Told.{player_told}

abbrev pub count_in : Option Player → Option ℕ
count_in o = option_map (λ player. length player.words) o

module _ (s : Seen) (words : List RemoteWord) (p : ℕ) where
  -- a test that words don't touch
  pub test_told : (test : Player → Bool) → ((x : Player) → test (with_words (words_among words p) x) ≡ test x)
      → of_player test (told s words).core.players p ≡ of_player test s.core.players p
  test_told test same =
      ap (λ o. option_map_or test o false) (player_told s words p) ∙ go (player_at s.core.players p)
    where
      go : (o : Option Player) → option_map_or test (option_map (with_words (words_among words p)) o) false ≡ option_map_or test o false
      go None = refl
      go (Some x) = same x

  pub nobody_told : None ≡ count_in (player_at s.core.players p) → None ≡ count_in (player_at (told s words).core.players p)
  nobody_told none = go (player_at s.core.players p) none ∙ ap count_in (sym (player_told s words p))
    where
      go : (o : Option Player) → None ≡ count_in o → None ≡ count_in (option_map (with_words (words_among words p)) o)
      go None e = refl
      go (Some x) e = absurd (cc e)

  pub count_told : (n : ℕ) → Some n ≡ count_in (player_at s.core.players p)
      → Some (n + length (words_among words p)) ≡ count_in (player_at (told s words).core.players p)
  count_told n e = go (player_at s.core.players p) e ∙ ap count_in (sym (player_told s words p))
    where
      go : (o : Option Player) → Some n ≡ count_in o
          → Some (n + length (words_among words p)) ≡ count_in (option_map (with_words (words_among words p)) o)
      go None e = absurd (cc e)
      go (Some x) e =
          let same : n ≡ length x.words = cc e in
          let all : n + length (words_among words p) ≡ length (x.words ++ words_among words p) =
          omega (arith, same, length-append x.words (words_among words p)) in
          ap Some all

  -- the words of frames that were told are the session's, and the others those that were held back
  pub word_before : (n t : ℕ) → Some n ≡ count_in (player_at s.core.players p) → t < n
      → confirmed_word s.core.players p t ≡ confirmed_word (told s words).core.players p t
  word_before n t e l =
      go (player_at s.core.players p) e ∙ ap (λ (o : Option Player). option_and_then (λ player. slice_get player.words t) o) (sym (player_told s words p))
    where
      go : (o : Option Player) → Some n ≡ count_in o
          → option_and_then (λ player. slice_get player.words t) o
          ≡ option_and_then (λ player. slice_get player.words t) (option_map (with_words (words_among words p)) o)
      go None e = absurd (cc e)
      go (Some x) e =
          let same : n ≡ length x.words = cc e in
          sym (slice_get-append_left x.words (words_among words p) t (omega (arith, l, same)))

  pub word_after : (n t : ℕ) → Some n ≡ count_in (player_at s.core.players p) → n ≤ t
      → slice_get (words_among words p) (t - n) ≡ confirmed_word (told s words).core.players p t
  word_after n t e l =
      go (player_at s.core.players p) e ∙ ap (λ (o : Option Player). option_and_then (λ player. slice_get player.words t) o) (sym (player_told s words p))
    where
      go : (o : Option Player) → Some n ≡ count_in o
          → slice_get (words_among words p) (t - n)
          ≡ option_and_then (λ player. slice_get player.words t) (option_map (with_words (words_among words p)) o)
      go None e = absurd (cc e)
      go (Some x) e =
          let same : n ≡ length x.words = cc e in
          ap (λ m. slice_get (words_among words p) (t - m)) same
          ∙ sym (slice_get-append_right x.words (words_among words p) t (t - length x.words) (omega (arith, l, same)))

  pub no_word : (t : ℕ) → None ≡ count_in (player_at s.core.players p) → None ≡ confirmed_word (told s words).core.players p t
  no_word t none =
      go (player_at s.core.players p) none ∙ ap (λ (o : Option Player). option_and_then (λ player. slice_get player.words t) o) (sym (player_told s words p))
    where
      go : (o : Option Player) → None ≡ count_in o
          → None ≡ option_and_then (λ player. slice_get player.words t) (option_map (with_words (words_among words p)) o)
      go None e = refl
      go (Some x) e = absurd (cc e)

  -- past all words a cell is from where it was
  pub source_past : (n t : ℕ) → Some n ≡ count_in (player_at (told s words).core.players p) → n ≤ t
      → option_map (source_at t) (player_at s.core.players p) ≡ option_map (source_at t) (player_at (told s words).core.players p)
  source_past n t e l =
      go (player_at s.core.players p) (e ∙ ap count_in (player_told s words p)) ∙ ap (option_map (source_at t)) (sym (player_told s words p))
    where
      go : (o : Option Player) → Some n ≡ count_in (option_map (with_words (words_among words p)) o)
          → option_map (source_at t) o ≡ option_map (source_at t) (option_map (with_words (words_among words p)) o)
      go None e = refl
      go (Some x) e =
          let same : n ≡ length (x.words ++ words_among words p) = cc e in
          let long : length x.words + length (words_among words p) ≤ t = omega (arith, same, l, length-append x.words (words_among words p)) in
          rw (le-ltb t (length x.words) (omega (arith, long)), le-ltb t (length (x.words ++ words_among words p)) (omega (arith, same, l))) refl

-- a player has few words
module _ (step : Step) (s : Seen) (follows : FollowsLog step s) where
  pub few_words : (p n : ℕ) → Some n ≡ count_in (player_at s.core.players p) → n ≤ FRAME_LIMIT + QUEUE_LIMIT
  few_words p n e = go (player_at s.core.players p) refl e
    where
      low : settled s.core ≤ s.core.frame
      low = let is = settled_is s.core (law_of step s follows Sound sound_played).root in omega (arith, is.0)

      short : (x : Player) → player_at s.core.players p ≡ Some x → length x.words ≤ settled s.core + QUEUE_LIMIT
      short x e =
          (law_of step s follows (λ settings core. (place : ℕ) (player : Player) → slice_get core.players place ≡ Some player
          → (length player.words ≤ settled core + QUEUE_LIMIT)
          × (player.local ≡ true → length player.words ≤ settled core + settings.threshold + DELAY_LIMIT + 1))
          queues_are_short (p - 1) x (is_at s.core.players p x e).there).0

      go : (o : Option Player) → player_at s.core.players p ≡ o → Some n ≡ count_in o → n ≤ FRAME_LIMIT + QUEUE_LIMIT
      go None at e = absurd (cc e)
      go (Some x) at e =
          let same : n ≡ length x.words = cc e in
          omega (arith, same, low, short x at, (small_of step s follows).frame)
