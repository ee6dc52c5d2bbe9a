-- What a session can't start with, by name; and settings that are made step by step.
use Rattle.std.specs.Prelude.{ℕ, ◌+◌, ◌-◌, ◌^◌, List, [], ◌∷◌, length, replicate, not, Bool, ◌&&◌, nat_lt, nat_le, ◌==◌, Option, Some, None, Result, Ok, Err, unwrap_or, if◌then◌else◌}
use Rattle.std.specs.Int.{is_in_range}
use Rattle.std.specs.List.{find, range_with_len}
use Rattle.std.specs.Option.{option_map, option_map_or}
use Rattle.roll_frame.specs.declared.fault.SettingsFault.{SettingsFault}
use Rattle.roll_frame.specs.declared.fault.SettingsFault.TheVariants.{Players, NoLocalPlayer, LocalPlayerOutside, LongDelay, DelayOfRemotePlayer, Threshold, FrameLimit, LogLimit}
use Rattle.roll_frame.specs.declared.limits.TheConstants.{DELAY_LIMIT, FRAME_LIMIT, LOG_LIMIT, PLAYER_LIMIT}
use Rattle.roll_frame.specs.declared.profile.Profile.TheVariants.{Ggpo, Wide}
use Rattle.roll_frame.specs.declared.refusal.Refusal.{Refusal}
use Rattle.roll_frame.specs.declared.refusal.Refusal.TheVariants.{PlayerOutOfRange, InvalidRequest}
use Rattle.roll_frame.specs.declared.settings.Settings.{Settings}
use Rattle.roll_frame.specs.Settings.{delay_at, is_local, most_players, most_threshold, none_before, none_first, places, start_tests}

-- the number of the first player at these places of whom a test holds
abbrev pub player_who : (ℕ → Bool) → List ℕ → Option ℕ
player_who test places = option_map (λ place. place + 1) (find test places)

-- the places past the players
abbrev pub places_past : Settings → List ℕ
places_past settings = range_with_len settings.players (PLAYER_LIMIT - settings.players)

-- what each test of a start finds where it holds, in their order
abbrev pub faults : Settings → List SettingsFault
faults settings =
    Players
    ∷ NoLocalPlayer
    ∷ LocalPlayerOutside (unwrap_or (player_who (is_local settings) (places_past settings)) 0)
    ∷ LongDelay (unwrap_or (player_who (λ place. nat_lt DELAY_LIMIT (delay_at settings place)) (places settings)) 0)
    ∷ DelayOfRemotePlayer (unwrap_or (player_who (λ place. not (is_local settings place) && nat_lt 0 (delay_at settings place)) (places settings)) 0)
    ∷ Threshold
    ∷ FrameLimit
    ∷ LogLimit
    ∷ []

-- the fault of the first test that holds
abbrev pub first_fault : List (Bool × Refusal) → List SettingsFault → Option SettingsFault
first_fault [] faults = None
first_fault (test ∷ tests) [] = None
first_fault (test ∷ tests) (fault ∷ faults) = if test.0 then Some fault else first_fault tests faults

abbrev pub start_fault : Settings → Option SettingsFault
start_fault settings = first_fault (start_tests settings) (faults settings)

abbrev pub refusal_of : SettingsFault → Refusal
refusal_of Players = PlayerOutOfRange
refusal_of _ = InvalidRequest

-- settings, unless a session can't start with them
abbrev pub checked : Settings → Result Settings SettingsFault
checked settings = option_map_or Err (start_fault settings) (Ok settings)

-- whether there is a player of this number, as far as the settings have room for one
abbrev pub has_player : Settings → ℕ → Bool
has_player settings p = is_in_range 1 settings.players p && nat_le p PLAYER_LIMIT

-- so many players, those with these bits local: nothing is delayed, all bits are held, and the limits are the greatest
abbrev pub plain_settings : ℕ → ℕ → Settings
plain_settings players local =
    record {
      profile = if nat_lt (most_players Ggpo) players then Wide else Ggpo;
      players = players;
      local = local;
      delays = replicate PLAYER_LIMIT 0;
      masks = replicate PLAYER_LIMIT (2 ^ 32 - 1);
      before = none_before;
      first = none_first;
      threshold = most_threshold Ggpo;
      limit = FRAME_LIMIT;
      log = LOG_LIMIT;
    }

-- the first of these numbers that is none of so many players
abbrev pub outside : ℕ → List ℕ → Option ℕ
outside players numbers = find (λ p. not (is_in_range 1 players p)) numbers

-- what is wrong with so many players, of whom those with these numbers are local
abbrev pub local_fault : ℕ → List ℕ → Option SettingsFault
local_fault players local =
    if not (is_in_range 1 (most_players Wide) players) then Some Players
    else (if length local == 0 then Some NoLocalPlayer
    else option_map LocalPlayerOutside (outside players local))
