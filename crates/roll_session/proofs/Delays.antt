-- Where a local player's next word counts.
use Rattle.std.proofs.Common.{◌≡◌, ℕ, ◌+◌, ◌-◌, List, length, refl, Option, Some, None, true, false}
use Rattle.std.specs.Prelude.{IfSome, if◌then◌else◌, slice_get}
use Rattle.std.specs.Option.{option_map, option_map_or}
use Rattle.std.proofs.lemmas.Bool.{false≢true}
use Rattle.roll_frame.specs.Events.{replay}
use Rattle.roll_frame.specs.Games.{Game}
use Rattle.roll_frame.specs.Inputs.{of_player, player_at}
use Rattle.roll_frame.specs.Settings.{delay_at}
use Rattle.roll_frame.specs.Timeline.{Player}
use Rattle.roll_frame.specs.declared.entry.Entry.{Entry}
use Rattle.roll_frame.specs.declared.settings.Settings.{Settings}
use Rattle.roll_laws.specs.Sessions.{IsLog}
use Rattle.roll_laws.proofs.Accepted.{at_place}
use Rattle.roll_laws.proofs.Bounds.{players_stay}
use Rattle.roll_laws.proofs.Delayed.{local_words_are_delayed}
use Rattle.roll_laws.proofs.Glue.{always_holds}

module _ (settings : Settings) (game : Game) (log : List Entry) (is_log : IsLog settings game log) where
  pub as_many : length (replay settings log).players ≡ settings.players
  as_many = always_holds (λ settings core. length core.players ≡ settings.players) players_stay settings game log is_log

  words_at : (place : ℕ) (x : Player) → slice_get (replay settings log).players place ≡ Some x → x.local ≡ true → length x.words ≡ (replay settings log).frame + delay_at settings place + (if x.given then 1 else 0)
  words_at =
      always_holds
      (λ settings core. (place : ℕ) (x : Player) → slice_get core.players place ≡ Some x → x.local ≡ true → length x.words ≡ core.frame + delay_at settings place + (if x.given then 1 else 0))
      local_words_are_delayed settings game log is_log

  pub next_input : (p : ℕ) → of_player (λ x. x.local) (replay settings log).players p ≡ true
      → IfSome (option_map (λ (x : Player). length x.words) (player_at (replay settings log).players p)) (λ frame. frame ≡ (replay settings log).frame + delay_at settings (p - 1) + (if of_player (λ x. x.given) (replay settings log).players p then 1 else 0))
  next_input p l = go (player_at (replay settings log).players p) refl l
    where
      go : (o : Option Player) → player_at (replay settings log).players p ≡ o → option_map_or (λ (x : Player). x.local) o false ≡ true
          → IfSome (option_map (λ (x : Player). length x.words) o) (λ frame. frame ≡ (replay settings log).frame + delay_at settings (p - 1) + (if option_map_or (λ (x : Player). x.given) o false then 1 else 0))
      go None e l = absurd (false≢true l)
      go (Some x) e l = words_at (p - 1) x (at_place (replay settings log).players p x e) l
