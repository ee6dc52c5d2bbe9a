-- A board as its callers see it, and what its fields keep.
use Rattle.std.specs.Prelude.{◌≡◌, ◌≢◌, ℕ, ◌+◌, ◌-◌, ◌<◌, ◌≤◌, List, length, map, true, false, All, Option, None, if◌then◌else◌, ◌==◌, nat_lt, option_and_then, slice_get}
use Rattle.std.specs.Option.{option_map, option_map_or}
use Rattle.std.specs.List.{list_any}
use Rattle.roll_frame.specs.declared.limits.TheConstants.{DELAY_LIMIT, FRAME_LIMIT, PLAYER_LIMIT, QUEUE_LIMIT}
use Rattle.roll_frame.specs.declared.profile.Profile.TheVariants.{Wide}
use Rattle.roll_frame.specs.declared.refusal.Refusal.{Refusal}
use Rattle.roll_frame.specs.declared.row.Cell.{Cell}
use Rattle.roll_frame.specs.declared.settings.Settings.{Settings}
use Rattle.roll_frame.specs.Guess.{words_tests}
use Rattle.roll_frame.specs.Inputs.{local_tests, remote_tests, disconnect_tests, changed, player_at, with_none_given}
use Rattle.roll_frame.specs.Refusals.{first_refusal}
use Rattle.roll_frame.specs.Settings.{first_player, first_players, most_threshold}
use Rattle.roll_frame.specs.Timeline.{Player, cell_at}
use Rattle.roll_inputs.specs.Queues.{Known}
use Rattle.roll_inputs.specs.declared.source.Source.{Source}
use Rattle.roll_inputs.specs.declared.source.Source.TheVariants.{Confirmed, Predicted, Gone}

-- the players with all their confirmed words, the current and the settled frame, and the threshold and the
-- last frame of the settings
pub record Inputs : Type 0 where
  pub players : List Player
  pub frame : ℕ
  pub settled : ℕ
  pub threshold : ℕ
  pub limit : ℕ

abbrev pub first_inputs : Settings → Inputs
first_inputs settings =
    record { players = first_players settings; frame = 0; settled = 0; threshold = settings.threshold; limit = settings.limit }

-- the inputs after player p changed
abbrev pub with_player : (Player → Player) → Inputs → ℕ → Inputs
with_player change inputs p = record inputs { players = changed change inputs.players p }

-- why a local word, a remote word that was not taken before, and a disconnect of player p are refused
abbrev pub local_refusal : Inputs → ℕ → Option Refusal
local_refusal inputs p = first_refusal (local_tests inputs.players inputs.frame inputs.threshold inputs.limit p)

abbrev pub remote_refusal : Inputs → ℕ → ℕ → Option Refusal
remote_refusal inputs p f = first_refusal (remote_tests inputs.players inputs.settled p f)

abbrev pub disconnect_refusal : Inputs → ℕ → Option Refusal
disconnect_refusal inputs p = first_refusal (disconnect_tests inputs.players p)

-- why a guess is refused: that player p gives these words next, with rows up to a frame
abbrev pub guess_refusal : Inputs → ℕ → List ℕ → ℕ → Option Refusal
guess_refusal inputs p words until = first_refusal (words_tests inputs.players inputs.settled inputs.limit p words until)

-- how many words of player p are confirmed
abbrev pub count_of : List Player → ℕ → ℕ
count_of players p = option_map_or (λ player. length player.words) (player_at players p) 0

-- the confirmed word of player p at frame t, if there is one
abbrev pub confirmed_word : List Player → ℕ → ℕ → Option ℕ
confirmed_word players p t = option_and_then (λ player. slice_get player.words t) (player_at players p)

-- where a player's cell at frame t comes from, in the order of cell_at
abbrev pub source_at : ℕ → Player → Source
source_at t player = if nat_lt t (length player.words) then Confirmed else (if player.gone then Gone else Predicted)

-- the timeline's cell of player p at frame t, if there is such a player
abbrev pub cell_of : List Player → ℕ → ℕ → Option Cell
cell_of players p t = option_map (cell_at t) (player_at players p)

-- the cells of other players stay, and those of player p at the frames that were confirmed
pub record KeepsCells (old new : List Player) (p : ℕ) : Type 0 where
  pub others : (q t : ℕ) → q ≢ p → cell_of new q t ≡ cell_of old q t
  pub confirmed : (t : ℕ) → t < count_of old p → cell_of new p t ≡ cell_of old p t

abbrev pub players_of : List Known → List Player
players_of queues = map (λ q. q.player) queues

-- a queue at the start
abbrev pub first_known : Settings → ℕ → Known
first_known settings place = record { player = first_player settings place; from = 0 }

-- a queue whose player has given no word in the new frame, and one that lets go of the words below a frame
abbrev pub started : Known → Known
started q = record q { player = with_none_given q.player }

abbrev pub settled_to : ℕ → Known → Known
settled_to to q = record q { from = to }

-- player p's queue, if there is such a player
abbrev pub queue_at : List Known → ℕ → Option Known
queue_at queues p = if p == 0 then None else slice_get queues (p - 1)

-- a queue beside these frames: its ring begins at the settled frame, which is confirmed unless the player is
-- gone, and has room for its words. A local player is never gone, and its words are of the delay, of the frames
-- before this one, and of this one if it was given
pub record IsInStep (settled frame limit : ℕ) (q : Known) : Type 0 where
  pub from : q.from ≡ settled
  pub ahead : q.player.gone ≡ false → settled ≤ length q.player.words
  pub few : length q.player.words ≤ settled + QUEUE_LIMIT
  pub stays : q.player.local ≡ true → q.player.gone ≡ false
  pub own : q.player.local ≡ true → length q.player.words ≤ frame + DELAY_LIMIT + (if q.player.given then 1 else 0)
  pub early : q.player.given ≡ true → frame < limit

-- what the fields of a board keep: the queues, the frames, and the threshold and the last frame
pub record IsBoard (queues : List Known) (frame settled threshold limit : ℕ) : Type 0 where
  pub some : 1 ≤ length queues
  pub most : length queues ≤ PLAYER_LIMIT
  pub local : list_any (λ q. q.player.local) queues ≡ true
  pub in_step : All (IsInStep settled frame limit) queues
  pub reached : settled ≤ frame
  pub window : frame ≤ settled + threshold + 1
  pub within : frame ≤ limit
  pub narrow : threshold ≤ most_threshold Wide
  pub short : limit ≤ FRAME_LIMIT
