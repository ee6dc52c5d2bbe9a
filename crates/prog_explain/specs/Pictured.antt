-- What is seen of a script's play, and drawn of it.
use Rattle.std.specs.Prelude.{◌≡◌, ◌&&◌, ℕ, List, [], ◌∷◌, fold, length, Bool, true, false, Option, None, Some, is_none, IfSome, IsNone, IsSome, MatchBool, ⊤}
use Rattle.std.specs.Int.{is_in_range}
use Rattle.std.specs.String.{string_bytes}
use Rattle.std.specs.declared.alloc.Global.{Global}
use Rattle.std.specs.declared.string.String.{String}
use Rattle.roll_frame.specs.Core.{Core}
use Rattle.roll_frame.specs.Games.{Game}
use Rattle.roll_frame.specs.Settings.{start_refusal}
use Rattle.roll_frame.specs.declared.settings.Settings.{Settings}
use Rattle.roll_game.specs.Counts.{no_calls}
use Rattle.roll_session.specs.Seen.{Seen}
use Rattle.roll_text.specs.Lines.{text_of}
use Rattle.prog_observer.specs.Drawing.{IsDrawn}
use Rattle.prog_observer.specs.Observing.{Observed, after_watch, nothing_seen}
use Rattle.prog_scripts.specs.declared.ending.GameName.{GameName}
use Rattle.prog_scripts.specs.declared.ending.GameName.TheVariants.{Tally, Duel}
use Rattle.prog_scripts.specs.declared.task.Task.{Task}
use Rattle.prog_scripts.specs.declared.task.Task.TheVariants.{Play as PlayTask, SyncTest, Certify}
use Rattle.prog_picture.specs.declared.scene.Window.{Window}
use Rattle.prog_scripts.specs.Output.{Playing, after_command, duel_game, first_playing, refusal_by, tally_game}
use Rattle.prog_scripts.specs.Headers.{settings_of}
use Rattle.prog_scripts.specs.Plays.{IsPlay, IsScript, Play, play_lines}
use Rattle.prog_scripts.specs.declared.command.Command.{Command}
use Rattle.prog_scripts.specs.declared.command.Command.TheVariants.{Local, Remote, Disconnect, Sync, Advance, Guess, Extend, Claim}

-- a session that has come to this, without its log and what its game was asked for, of which nothing is seen
abbrev pub session_at : Settings → Game → Core → Seen
session_at settings game core =
    record {
      settings = settings;
      opening = game.opening;
      core = core;
      log = [];
      counts = no_calls;
      reserved = 0;
    }

-- whether a command is a sync or an advance
abbrev pub is_roll : Command → Bool
is_roll Sync = true
is_roll Advance = true
is_roll (Local player word) = false
is_roll (Remote player frame word) = false
is_roll (Disconnect player) = false
is_roll (Guess player until words) = false
is_roll (Extend job) = false
is_roll Claim = false

-- whether a command is a sync or an advance that isn't refused
abbrev pub has_rolled : Settings → Game → Playing → Command → Bool
has_rolled settings game playing command =
    is_none (refusal_by settings game playing command) && is_roll command

-- what was seen, and then of a command, where the session is watched after it
abbrev pub seen_after : Settings → Game → Playing → Command → Observed → Observed
seen_after settings game playing command seen =
    after_watch seen
    (session_at settings game (after_command settings game playing command).core)
    (has_rolled settings game playing command)

-- what was seen, and then of commands, one by one
abbrev pub seen_by : Settings → Game → Playing → List Command → Observed → Observed
seen_by settings game playing [] seen = seen
seen_by settings game playing (command ∷ commands) seen =
    seen_by settings game (after_command settings game playing command) commands
    (seen_after settings game playing command seen)

-- what commands make of a script
abbrev pub played_by : Settings → Game → Playing → List Command → Playing
played_by settings game playing commands = fold (after_command settings game) playing commands

-- what is seen of a play where this window is asked for
abbrev pub seen_in : Game → Window → Play → Observed
seen_in game window play =
    let settings = settings_of play.setup in
    seen_by settings game (first_playing settings) play.commands
    (nothing_seen play.setup.players window)

-- the session at the end of a play
abbrev pub session_after : Game → Play → Seen
session_after game play =
    let settings = settings_of play.setup in
    session_at settings game
    (played_by settings game (first_playing settings) play.commands).core

-- a picture shows what is seen of commands from here on, where this window is asked for
abbrev pub AreDrawn : Settings → Game → Playing → List Command → Window → List ℕ → Type 0
AreDrawn settings game playing commands window =
    IsDrawn (session_at settings game (played_by settings game playing commands).core)
    (seen_by settings game playing commands (nothing_seen (length playing.core.players) window))

-- the picture of a play; none if its session doesn't start
abbrev pub IsPlayDrawn : Game → Window → Play → Option (String Global) → Type 0
IsPlayDrawn game window play None = IsSome (start_refusal (settings_of play.setup))
IsPlayDrawn game window play (Some picture) =
    IsNone (start_refusal (settings_of play.setup))
    × IsDrawn (session_after game play) (seen_in game window play) (string_bytes picture)

-- the same with the game of a name. The ship duel starts no session where there can't be so many ships
abbrev pub IsGameDrawn : GameName → Window → Play → Option (String Global) → Type 0
IsGameDrawn Tally window play picture = IsPlayDrawn tally_game window play picture
IsGameDrawn Duel window play picture =
    MatchBool (is_in_range 2 4 play.setup.players)
    (IsPlayDrawn (duel_game play.setup.players) window play picture) (picture ≡ None)

-- the text is that of a play, and this is its picture
pub record IsTextDrawn (game : GameName) (window : Window) (text : List ℕ) (picture : Option (String Global))
    : Type 0 where
  pub play : Play
  pub fits : IsPlay play
  pub spelled : text ≡ text_of (play_lines play)
  pub drawn : IsGameDrawn game window play picture

-- the picture that is there after a task, if one was asked for: that of the play, where the text is a script's
abbrev pub IsShown : Task → Option Window → List ℕ → Option (String Global) → Type 0
IsShown (PlayTask game) window text picture =
    IfSome window (λ window. IsScript text → IsTextDrawn game window text picture)
IsShown (SyncTest game frames) window text picture = ⊤
IsShown Certify window text picture = ⊤
