-- The first line of a script: how its session is opened.
use Rattle.std.specs.Prelude.{◌≡◌, ℕ, ◌-◌, ◌<◌, ◌≤◌, ◌^◌, List, [], ◌∷◌, ◌++◌, length, codes, replicate, take, fold, bit_or}
use Rattle.std.specs.List.{All, join_with_byte}
use Rattle.std.specs.Fmt.{decimal}
use Rattle.roll_frame.specs.declared.limits.TheConstants.{PLAYER_LIMIT, FRAME_LIMIT, LOG_LIMIT}
use Rattle.roll_frame.specs.declared.profile.Profile.{Profile}
use Rattle.roll_frame.specs.declared.profile.Profile.TheVariants.{Ggpo, Wide as WideProfile}
use Rattle.roll_frame.specs.Settings.{none_before, none_first}
use Rattle.roll_frame.specs.declared.settings.Settings.{Settings}
use Rattle.roll_text.specs.Numbers.{IsWord, IsList, list_of}
use Rattle.prog_scripts.specs.declared.header.Header.{Header}
use Rattle.prog_scripts.specs.declared.header.Version.{Version}
use Rattle.prog_scripts.specs.declared.header.Version.TheVariants.{Plain, Masked, Wide}

-- a header without where it lies in memory
pub record Setup : Type 0 where
  pub version : Version
  pub players : ℕ
  pub local : List ℕ
  pub delays : List ℕ
  pub masks : List ℕ
  pub threshold : ℕ

abbrev pub setup_of : Header → Setup
setup_of header =
    record {
      version = header.version;
      players = header.players;
      local = header.local.items;
      delays = header.delays.items;
      masks = header.masks.items;
      threshold = header.threshold;
    }

-- each number is above the one before it, the first above least, and none is above 8
abbrev pub IsRising : ℕ → List ℕ → Type 0
IsRising least [] = Unit {0}
IsRising least (n ∷ ns) = (least < n) × (n ≤ PLAYER_LIMIT) × IsRising n ns

-- a plain header has no masks, the others one for each player
abbrev pub mask_count : Version → ℕ → ℕ
mask_count Plain players = 0
mask_count version players = players

pub record IsSetup (setup : Setup) : Type 0 where
  pub players : (1 ≤ setup.players) × (setup.players ≤ PLAYER_LIMIT)
  pub local : IsList setup.local
  pub rising : IsRising 0 setup.local
  pub delays : IsList setup.delays
  pub each : length setup.delays ≡ setup.players
  pub masks : All IsWord setup.masks
  pub masked : length setup.masks ≡ mask_count setup.version setup.players
  pub threshold : IsWord setup.threshold

abbrev pub version_field : Version → List ℕ
version_field Plain = codes "1"
version_field Masked = codes "2"
version_field Wide = codes "3"

abbrev pub mask_fields : List ℕ → List (List ℕ)
mask_fields [] = []
mask_fields (mask ∷ masks) = codes "mask" ∷ list_of (mask ∷ masks) ∷ []

abbrev pub header_fields : Setup → List (List ℕ)
header_fields setup =
    codes "roll" ∷ version_field setup.version ∷ codes "players" ∷ decimal setup.players
    ∷ codes "local" ∷ list_of setup.local ∷ codes "delay" ∷ list_of setup.delays
    ∷ (mask_fields setup.masks ++ codes "threshold" ∷ decimal setup.threshold ∷ [])

-- a header's line, without its end
unfoldable pub header_of : Setup → List ℕ
header_of setup = join_with_byte 32 (header_fields setup)

-- numbers in eight places, and what stands in the places past them
abbrev pub in_places : ℕ → List ℕ → List ℕ
in_places rest numbers = take PLAYER_LIMIT (numbers ++ replicate PLAYER_LIMIT rest)

abbrev pub profile_of : Version → Profile
profile_of Plain = Ggpo
profile_of Masked = Ggpo
profile_of Wide = WideProfile

-- bit p - 1 for each player p
abbrev pub bits_of : List ℕ → ℕ
bits_of players = fold (λ bits p. bit_or bits (2 ^ (p - 1))) 0 players

-- what a header asks of a session. Without masks all bits are held
abbrev pub settings_of : Setup → Settings
settings_of setup =
    record {
      profile = profile_of setup.version;
      players = setup.players;
      local = bits_of setup.local;
      delays = in_places 0 setup.delays;
      masks = in_places (2 ^ 32 - 1) setup.masks;
      before = none_before;
      first = none_first;
      threshold = setup.threshold;
      limit = FRAME_LIMIT;
      log = LOG_LIMIT;
    }
