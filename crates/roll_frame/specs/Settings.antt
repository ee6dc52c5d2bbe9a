-- What a session is opened with, when that is refused, and its players at first.
use Rattle.std.specs.Prelude.{ℕ, ◌^◌, List, [], ◌∷◌, replicate, map, not, Bool, false, ◌&&◌, nat_lt, nat_le, ◌==◌, slice_index, slice_index_or, Option}
use Rattle.std.specs.Int.{is_in_range, bit_at}
use Rattle.std.specs.List.{list_any, range_with_len}
use Rattle.roll_frame.specs.declared.limits.TheConstants.{DELAY_LIMIT, FRAME_LIMIT, LOG_LIMIT, PLAYER_LIMIT}
use Rattle.roll_frame.specs.declared.refusal.Refusal.{Refusal}
use Rattle.roll_frame.specs.declared.refusal.Refusal.TheVariants.{PlayerOutOfRange, InvalidRequest}
use Rattle.roll_frame.specs.declared.profile.Profile.{Profile}
use Rattle.roll_frame.specs.declared.profile.Profile.TheVariants.{Ggpo, Wide}
use Rattle.roll_frame.specs.declared.settings.Settings.{Settings}
use Rattle.roll_frame.specs.Refusals.{first_refusal}
use Rattle.roll_frame.specs.Timeline.{Player}

-- the limits of the profiles: players, threshold, and the kept states that branches may fill
abbrev pub most_players : Profile → ℕ
most_players Ggpo = 4
most_players Wide = 8

abbrev pub most_threshold : Profile → ℕ
most_threshold Ggpo = 8
most_threshold Wide = 15

abbrev pub open_to_branches : Profile → ℕ
open_to_branches Ggpo = 240
open_to_branches Wide = 224

-- the places of the players in delays, masks and rows: player p is at place p - 1
abbrev pub places : Settings → List ℕ
places settings = range_with_len 0 settings.players

-- whether the player at a place is local, by its bit
abbrev pub is_local : Settings → ℕ → Bool
is_local settings place = bit_at settings.local place == 1

abbrev pub delay_at : Settings → ℕ → ℕ
delay_at settings place = slice_index settings.delays place

-- no frames came before: of each player there is no word before frame 0, and none to begin with
abbrev pub none_before : List ℕ
none_before = replicate PLAYER_LIMIT 0

abbrev pub none_first : List (List ℕ)
none_first = replicate PLAYER_LIMIT (replicate DELAY_LIMIT 0)

-- the words with which a player begins: one for each frame of its delay
abbrev pub first_words : Settings → ℕ → List ℕ
first_words settings place = map (slice_index (slice_index_or settings.first place [])) (range_with_len 0 (delay_at settings place))

-- a local player begins with the words of its delay; others have none
abbrev pub first_player : Settings → ℕ → Player
first_player settings place =
    record {
      words = first_words settings place;
      before = slice_index settings.before place;
      mask = slice_index settings.masks place;
      local = is_local settings place;
      gone = false;
      given = false;
    }

abbrev pub first_players : Settings → List Player
first_players settings = map (first_player settings) (places settings)

-- the tests of a start: too few or too many players; no local one; a local one outside the players; too
-- long a delay; a delay of one who isn't local; a threshold, a frame limit or a log limit out of range
abbrev pub start_tests : Settings → List (Bool × Refusal)
start_tests settings =
    (not (is_in_range 1 (most_players settings.profile) settings.players), PlayerOutOfRange)
    ∷ (not (list_any (is_local settings) (places settings)), InvalidRequest)
    ∷ (nat_le (2 ^ settings.players) settings.local, InvalidRequest)
    ∷ (list_any (λ place. nat_lt DELAY_LIMIT (delay_at settings place)) (places settings), InvalidRequest)
    ∷ (list_any (λ place. not (is_local settings place) && nat_lt 0 (delay_at settings place)) (places settings), InvalidRequest)
    ∷ (not (is_in_range 1 (most_threshold settings.profile) settings.threshold), InvalidRequest)
    ∷ (not (is_in_range 1 FRAME_LIMIT settings.limit), InvalidRequest)
    ∷ (not (is_in_range 1 LOG_LIMIT settings.log), InvalidRequest)
    ∷ []

abbrev pub start_refusal : Settings → Option Refusal
start_refusal settings = first_refusal (start_tests settings)
