-- The picture of a play.
use Rattle.std.proofs.Common.{◌≡◌, ◌∙◌, ℕ, List, [], Option, Some, None, length, map, refl, subst, ap}
use Rattle.std.specs.Prelude.{◌≢◌, min, unwrap_or, option_map, IsNone, IsSome}
use Rattle.std.proofs.lemmas.List.FromFn.{length-map-range_with_len}
use Rattle.roll_frame.specs.Core.{Core}
use Rattle.roll_frame.specs.Games.{Game, Value}
use Rattle.roll_frame.specs.Settings.{first_player}
use Rattle.roll_frame.specs.declared.refusal.Refusal.{Refusal}
use Rattle.roll_frame.specs.declared.refusal.Refusal.TheVariants.{NoMemory}
use Rattle.roll_frame.specs.declared.settings.Settings.{Settings}
use Rattle.roll_game.specs.declared.counts.Counts.{Counts}
use Rattle.roll_session.specs.Seen.{Seen, Step}
use Rattle.roll_session.specs.Started.{first_seen}
use Rattle.prog_observer.specs.Hearing.{lane_in}
use Rattle.prog_observer.specs.Observing.{Observed, nothing_seen, tree_of}
use Rattle.prog_picture.specs.declared.scene.Window.{Window}
use Rattle.prog_scripts.specs.Output.{first_playing, game_from}
use Rattle.prog_scripts.specs.Headers.{settings_of}
use Rattle.prog_scripts.specs.Plays.{Play}
use Rattle.prog_scripts.specs.declared.command.Command.{Command}
use Rattle.prog_observer.specs.Drawing.{IsDrawn}
use Rattle.prog_explain.specs.Pictured.{AreDrawn, seen_by, seen_in, session_after, session_at}

-- a refusal other than for want of memory is that of the start
pub is_refused : (o : Option Refusal) (why : Refusal) → why ≡ unwrap_or o NoMemory → why ≢ NoMemory → IsSome o
is_refused None why e ne = absurd (ne e)
is_refused (Some w) why e ne = refl

pub is_accepted : (o : Option Refusal) → o ≡ None → IsNone o
is_accepted None e = refl
is_accepted (Some w) e = cc

-- a picture of a session, in other words
pub drawn_as : (settings : Settings) (game : Game) (core : Core) (seen last : Observed) (s : Seen) (picture : List ℕ)
    → s.core ≡ core → last ≡ seen → IsDrawn s last picture → IsDrawn (session_at settings game core) seen picture
drawn_as settings game core seen last s picture core_is last_is drawn =
    record {
      scene = drawn.scene;
      from = drawn.from ∙ ap (λ (o : Observed). o.window.from) last_is;
      to = drawn.to ∙ ap (λ (o : Observed). min o.window.to o.frame) last_is;
      lanes =
          drawn.lanes ∙ ap (λ (c : Core). map (lane_in (session_at settings game c) last.firsts) last.heard) core_is
          ∙ ap (λ (o : Observed). map (lane_in (session_at settings game core) o.firsts) o.heard) last_is;
      rolls = drawn.rolls ∙ ap (λ (o : Observed). o.rolls) last_is;
      tree = drawn.tree ∙ ap (λ (o : Observed). option_map tree_of o.sample) last_is;
      drawn = drawn.drawn;
    }

-- commands that are drawn from where a session is
abbrev AreDrawnOf : Step → List Command → Window → List ℕ → Seen → Type 0
AreDrawnOf step commands window picture s =
    AreDrawn s.settings (game_from s.opening step) (record { core = s.core; jobs = [] }) commands window picture

-- the picture of a play, from the session that was started for it
pub drawn_of_play : (step : Step) (x : Value) (play : Play) (window : Window) (given : Settings) (s : Seen) (counts : Counts) (picture : List ℕ)
    → given ≡ settings_of play.setup → s ≡ first_seen given x counts → AreDrawnOf step play.commands window picture s
    → IsDrawn (session_after (game_from x step) play) (seen_in (game_from x step) window play) picture
drawn_of_play step x play window given s counts picture given_is s_is drawn =
    let game : Game = game_from x step in
    let settings : Settings = settings_of play.setup in
    let begun : s ≡ first_seen settings x counts = s_is ∙ ap (λ (v : Settings). first_seen v x counts) given_is in
    let as_many : length (first_playing settings).core.players ≡ play.setup.players = length-map-range_with_len (first_player settings) 0 settings.players in
    subst (λ (n : ℕ). IsDrawn (session_after game play) (seen_by settings game (first_playing settings) play.commands (nothing_seen n window)) picture) as_many
    (subst (AreDrawnOf step play.commands window picture) begun drawn)
