-- What C gives as the settings of a match that a session plays, and what it sees of one that doesn't fit.
use Rattle.std.specs.Prelude.{◌≡◌, ◌⊎◌, ◌≤◌, ◌<◌, ◌==◌, ℕ, zero, suc, ◌+◌, ◌*◌, ◌/◌, List, Bool, true, false, not, replicate, slice_index, if◌then◌else◌}
use Rattle.roll_chain.specs.Chains.{first_chain, only_terms}
use Rattle.roll_chain.specs.Seams.{session_settings}
use Rattle.roll_chain.specs.declared.chain.Chain.{Chain}
use Rattle.roll_epoch.specs.declared.terms.Terms.{Terms}
use Rattle.roll_frame.specs.Settings.{none_before, none_first}
use Rattle.roll_frame.specs.declared.profile.Profile.{Profile}
use Rattle.roll_frame.specs.declared.profile.Profile.TheVariants.{Ggpo, Wide}
use Rattle.roll_frame.specs.declared.settings.Settings.{Settings as SessionSettings}
use Rattle.roll_mesh.specs.declared.limits.TheConstants.{PLAYER_LIMIT}
use Rattle.roll_peer.specs.Marks.{each_player}
use Rattle.roll_peer.specs.declared.settings.MatchSettings.{MatchSettings}
use Rattle.roll_relay.specs.declared.held.TheConstants.{TURN_LIMIT}
use Rattle.fazgrond_c.specs.declared.match_kinds.UnfitOut.{UnfitOut}
use Rattle.fazgrond_c.specs.declared.match_settings.Fit.{Fit}
use Rattle.fazgrond_c.specs.declared.match_settings.MatchSettingsIn.{MatchSettingsIn}
use Rattle.fazgrond_c.specs.declared.match_settings.TheConstants.{FRAME_TIME_LIMIT, INPUT_SIZE_LIMIT, NO_PLAYER}
use Rattle.fazgrond_c.specs.declared.match_settings.Unfit.{Unfit}
use Rattle.fazgrond_c.specs.declared.match_settings.Unfit.TheVariants.{Me, Machines, InputSize, Inputs, Owner, Delay, Profile as NoProfile, Threshold, HeldTurns, FrameTime}

-- ---- players and words of a row

-- how many words an input of so many bytes takes
abbrev pub words_of : ℕ → ℕ
words_of size = (size + 3) / 4

-- how many players there are: up to the last one, of the first so many, that somebody owns
unfoldable pub players_to : (owners : List ℕ) → ℕ → ℕ
players_to owners zero = 0
players_to owners (suc p) = if slice_index owners p == NO_PLAYER then players_to owners p else suc p

-- what a word of a row has, if each player has so many words
abbrev pub spread_at : List ℕ → (words q : ℕ) → ℕ
spread_at players words q = slice_index players (q / words)

abbrev pub spread : List ℕ → (words : ℕ) → List ℕ
spread players words = each_player (spread_at players words)

-- ---- settings that fit

abbrev pub profile_of : MatchSettingsIn → Profile
profile_of given = if given.profile == 0 then Ggpo else Wide

-- how the epoch opens
abbrev pub terms_of : MatchSettingsIn → Terms
terms_of given = record {
  id = given.epoch;
  base = given.base;
  owners = spread given.owners (words_of given.input_size);
  delays = spread given.delays (words_of given.input_size);
  threshold = given.threshold;
  words = words_of given.input_size;
}

-- the match
abbrev pub base_of : MatchSettingsIn → MatchSettings
base_of given = record {
  me = given.me;
  machines = given.machines;
  owners = spread given.owners (words_of given.input_size);
  numbers = given.numbers;
  draw = given.draw;
  digest = given.digest;
  opening = given.opening;
  silent_after = given.silent_after;
  notify_after = given.notify_after;
  stalled_after = given.stalled_after;
  carries = not (given.carries == 0);
  takes_marks = false;
  words = words_of given.input_size;
}

-- how it goes on
abbrev pub chain_of : MatchSettingsIn → Chain
chain_of given =
    if given.lasts == 0 then first_chain false (base_of given) (profile_of given) (only_terms (base_of given)) 0
    else first_chain true (base_of given) (profile_of given) (terms_of given) given.comers

-- its session at this machine: as many players as there are words in a row
abbrev pub session_of : MatchSettingsIn → SessionSettings
session_of given = session_settings (record {
  profile = profile_of given;
  players = words_of given.input_size * players_to given.owners PLAYER_LIMIT;
  local = 0;
  delays = replicate PLAYER_LIMIT 0;
  masks = given.masks;
  before = none_before;
  first = none_first;
  threshold = 0;
  limit = given.limit;
  log = given.log;
}) (terms_of given) given.me

abbrev pub fit_of : MatchSettingsIn → Fit
fit_of given = record {
  session = session_of given;
  chain = chain_of given;
  held_turns = given.held_turns;
  input_size = given.input_size;
  frame_time = given.frame_time;
}

-- ---- settings that don't

-- the number of a player at a place is so much, which has no room in 8 bits
pub record IsLarge (numbers : List ℕ) (player value : ℕ) : Type 0 where
  pub place : ℕ
  pub player_is : player ≡ place + 1
  pub value_is : value ≡ slice_index numbers place
  pub large : 256 ≤ value

abbrev pub IsUnfit : MatchSettingsIn → Unfit → Type 0
IsUnfit given (Me value) = (value ≡ given.me) × (256 ≤ value)
IsUnfit given (Machines value) = (value ≡ given.machines) × (256 ≤ value)
IsUnfit given (InputSize value) = (value ≡ given.input_size) × ((value ≡ 0) ⊎ (INPUT_SIZE_LIMIT < value))
IsUnfit given (Inputs value) =
    (value ≡ 4 * (words_of given.input_size * players_to given.owners PLAYER_LIMIT)) × (4 * PLAYER_LIMIT < value)
IsUnfit given (Owner player value) = IsLarge given.owners player value
IsUnfit given (Delay player value) = IsLarge given.delays player value
IsUnfit given (NoProfile value) = (value ≡ given.profile) × (2 ≤ value)
IsUnfit given (Threshold value) = (value ≡ given.threshold) × (256 ≤ value)
IsUnfit given (HeldTurns value) = (value ≡ given.held_turns) × (TURN_LIMIT < value)
IsUnfit given (FrameTime value) = (value ≡ given.frame_time) × ((value ≡ 0) ⊎ (FRAME_TIME_LIMIT < value))

-- what C sees of it
abbrev pub unfit_out : Unfit → UnfitOut
unfit_out (Me value) = record { setting = 1; player = 0; value = value }
unfit_out (Machines value) = record { setting = 2; player = 0; value = value }
unfit_out (InputSize value) = record { setting = 3; player = 0; value = value }
unfit_out (Inputs value) = record { setting = 3; player = 0; value = value }
unfit_out (Owner player value) = record { setting = 4; player = player; value = value }
unfit_out (Delay player value) = record { setting = 5; player = player; value = value }
unfit_out (NoProfile value) = record { setting = 6; player = 0; value = value }
unfit_out (Threshold value) = record { setting = 7; player = 0; value = value }
unfit_out (HeldTurns value) = record { setting = 8; player = 0; value = value }
unfit_out (FrameTime value) = record { setting = 9; player = 0; value = value }
