-- The headline of a script: what it writes of its events is told by turns of a session.
use Rattle.std.specs.Prelude.{◌≡◌, List, [], ◌∷◌, ◌++◌, map, None, ℕ, true}
use Rattle.std.specs.Int.{is_in_range}
use Rattle.std.specs.Option.{option_to_list}
use Rattle.roll_frame.specs.Events.{CoreEvent}
use Rattle.roll_frame.specs.Games.{Game}
use Rattle.roll_frame.specs.Settings.{start_refusal}
use Rattle.roll_frame.specs.declared.settings.Settings.{Settings}
use Rattle.roll_game.specs.declared.counts.Counts.{Counts}
use Rattle.roll_session.specs.Answered.{replies_to}
use Rattle.roll_session.specs.Headline.{Headline}
use Rattle.roll_session.specs.Seen.{Seen}
use Rattle.roll_session.specs.Headline.{Turn}
use Rattle.roll_text.specs.Lines.{ended}
use Rattle.prog_scripts.specs.Headers.{settings_of}
use Rattle.prog_scripts.specs.Output.{Playing, Texts, after_command, asked_by, event_text}
use Rattle.prog_scripts.specs.Output.{duel_game, duel_output, duel_refusals}
use Rattle.prog_scripts.specs.Output.{first_playing, output, refusals, reply_line, IsOutput}
use Rattle.roll_session.specs.Started.{first_seen}
use Rattle.prog_scripts.specs.Plays.{Play}
use Rattle.roll_duel.specs.Text.{duel_text}
use Rattle.prog_scripts.specs.declared.command.Command.{Command}

-- the events that commands ask for, in their order
abbrev pub events_from : Settings → Game → Playing → List Command → List CoreEvent
events_from settings game playing [] = []
events_from settings game playing (command ∷ commands) =
    option_to_list (asked_by playing command)
    ++ events_from settings game (after_command settings game playing command) commands

-- those of a script
abbrev pub events_of : Game → Play → List CoreEvent
events_of game play =
    events_from (settings_of play.setup) game (first_playing (settings_of play.setup)) play.commands

-- the lines that commands write of them, which are all that they write but those of guesses, of
-- claims and of jobs that aren't there
abbrev pub lines_from : Texts → Settings → Game → Playing → List Command → List (List ℕ)
lines_from texts settings game playing [] = []
lines_from texts settings game playing (command ∷ commands) =
    map (event_text texts settings game playing.core) (option_to_list (asked_by playing command))
    ++ lines_from texts settings game (after_command settings game playing command) commands

-- the line of a turn
abbrev pub line_of : Texts → Game → Turn → List ℕ
line_of texts game turn = ended (reply_line texts game turn.after.core turn.said)

-- the headline holds of the events of commands, and their lines are those of its turns
pub record HasHeadline (texts : Texts) (settings : Settings) (game : Game) (counts : Counts)
    (commands : List Command) (events : List CoreEvent) : Type 0 where
  pub new : Seen
  pub headline : Headline game.step (first_seen settings game.opening counts) new events
      (replies_to game.step (first_seen settings game.opening counts) events)
  pub lines : map (line_of texts game) headline.turns
      ≡ lines_from texts settings game (first_playing settings) commands

-- the headline of a script's play, where its session starts, whatever its game was asked for before
abbrev pub IsHeadlined : Texts → Game → Play → Type 0
IsHeadlined texts game play =
    (counts : Counts) → start_refusal (settings_of play.setup) ≡ None
    → HasHeadline texts (settings_of play.setup) game counts play.commands (events_of game play)

-- what a script writes, with so many refusals, and the headline
pub record IsHeadlinedOutput (texts : Texts) (game : Game) (text written : List ℕ) (refused : ℕ)
    : Type 0 where
  pub is_output : IsOutput (output texts game) (refusals game) text written refused
  pub headline : IsHeadlined texts game is_output.play

-- what a script of the ship duel writes, and where there can be so many ships, the headline
pub record IsHeadlinedDuel (text written : List ℕ) (refused : ℕ) : Type 0 where
  pub is_output : IsOutput duel_output duel_refusals text written refused
  pub headline : is_in_range 2 4 is_output.play.setup.players ≡ true
      → IsHeadlined duel_text (duel_game is_output.play.setup.players) is_output.play
