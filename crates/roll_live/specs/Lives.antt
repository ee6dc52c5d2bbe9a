-- Whole scripts that are played live.
use Rattle.std.specs.Prelude.{◌≡◌, ◌⊎◌, ℕ, ◌+◌, ◌==◌, List, ◌∷◌, ◌++◌, Bool, true, false, length, Option, None, Some, MatchOption, if◌then◌else◌, ⊤}
use Rattle.std.specs.Int.{is_in_range}
use Rattle.std.specs.Io.KnownBytes.{Appends}
use Rattle.roll_frame.specs.Games.{Game}
use Rattle.roll_frame.specs.Settings.{start_refusal}
use Rattle.roll_frame.specs.declared.refusal.Refusal.TheVariants.{PlayerOutOfRange}
use Rattle.roll_frame.specs.declared.settings.Settings.{Settings}
use Rattle.roll_game.specs.declared.counts.Counts.{Counts}
use Rattle.roll_session.specs.Seen.{Seen, Step}
use Rattle.roll_text.specs.Lines.{text_of}
use Rattle.roll_text.specs.Streams.{AppendsPart, IsBadAt}
use Rattle.prog_scripts.specs.Headers.{settings_of}
use Rattle.roll_session.specs.Started.{first_seen}
use Rattle.prog_scripts.specs.Output.{IsRefusedAlone, Texts, duel_game, tally_game}
use Rattle.prog_scripts.specs.Plays.{IsPlay, IsScript, Play, play_lines}
use Rattle.roll_duel.specs.Text.{duel_text}
use Rattle.roll_game.specs.Shown.{tally_text}
use Rattle.prog_scripts.specs.declared.command.Command.{Command}
use Rattle.prog_scripts.specs.declared.fault.PlayFault.{PlayFault}
use Rattle.prog_scripts.specs.declared.fault.PlayFault.TheVariants.{Unreadable, NoMemory, Read, Write}
use Rattle.prog_scripts.specs.declared.ending.Ending.{Ending}
use Rattle.prog_scripts.specs.declared.ending.GameName.{GameName}
use Rattle.prog_scripts.specs.declared.ending.GameName.TheVariants.{Tally, Duel}
use Rattle.roll_live.specs.Headlines.{HasHeadline}
use Rattle.roll_live.specs.Tellings.{IsLive}
use Rattle.roll_live.specs.Told.{IsFar}

module _ (step : Step) (texts : Texts) where
  -- the command in this line, of which the first stands in line 2, ended the run after those before
  -- it
  pub record IsFarAt (old : Seen) (commands : List Command) (line : ℕ) : Type 0 where
    pub front : List Command
    pub command : Command
    pub rest : List Command
    pub commands_are : commands ≡ front ++ command ∷ rest
    pub line_is : line ≡ length front + 2
    pub written : List ℕ
    pub refused : ℕ
    pub mid : Seen
    pub played : IsLive step texts old mid front written refused
    pub far : IsFar mid command

module _ (texts : Texts) (game : Game) where
  -- what the commands of a session write, with the headline, and how many of their replies are
  -- refusals: one where the session doesn't start
  abbrev pub WritesUnder : Settings → List Command → List ℕ → ℕ → Type 0
  WritesUnder settings commands written refused =
      MatchOption (start_refusal settings)
      ((counts : Counts) × (new : Seen)
      × HasHeadline game.step texts (first_seen settings game.opening counts) new
      commands written refused)
      (λ why. IsRefusedAlone why written refused)

  -- the command in this line of a session is too far ahead
  abbrev pub IsFarUnder : Settings → List Command → ℕ → Type 0
  IsFarUnder settings commands line =
      (counts : Counts)
      × IsFarAt game.step texts (first_seen settings game.opening counts) commands line

  abbrev pub Writes : Play → List ℕ → ℕ → Type 0
  Writes play written refused = WritesUnder (settings_of play.setup) play.commands written refused

  abbrev pub IsFarOf : Play → ℕ → Type 0
  IsFarOf play line = IsFarUnder (settings_of play.setup) play.commands line

-- a duel has as many ships as the script players; if there can't be so many, that is all that is
-- written
abbrev pub DuelWritesBy : Bool → Play → List ℕ → ℕ → Type 0
DuelWritesBy true play written refused =
    Writes duel_text (duel_game play.setup.players) play written refused
DuelWritesBy false play written refused = IsRefusedAlone PlayerOutOfRange written refused

abbrev pub DuelWrites : Play → List ℕ → ℕ → Type 0
DuelWrites play written refused =
    DuelWritesBy (is_in_range 2 4 play.setup.players) play written refused

-- the text is a script's, which writes this, with so many refusals
pub record IsOutput (OutputOf : Play → List ℕ → ℕ → Type 0) (text written : List ℕ) (refused : ℕ)
    : Type 0 where
  pub play : Play
  pub fits : IsPlay play
  pub spelled : text ≡ text_of (play_lines play)
  pub written_is : OutputOf play written refused

-- the text is a script's, in which the command in this line is too far ahead
pub record IsFarIn (FarOf : Play → ℕ → Type 0) (text : List ℕ) (line : ℕ) : Type 0 where
  pub play : Play
  pub fits : IsPlay play
  pub spelled : text ≡ text_of (play_lines play)
  pub far : FarOf play line

-- a line can't be read: it isn't a command, or what it says is too far ahead
abbrev pub IsUnreadable : (Play → ℕ → Type 0) → ℕ → List ℕ → Type 0
IsUnreadable FarOf line text = IsBadAt IsScript line text ⊎ IsFarIn FarOf text line

-- what a script of a named game writes, and where it is too far ahead
abbrev pub WritesOf : GameName → Play → List ℕ → ℕ → Type 0
WritesOf Tally = Writes tally_text tally_game
WritesOf Duel = DuelWrites

abbrev pub FarOf : GameName → Play → ℕ → Type 0
FarOf Tally play line = IsFarOf tally_text tally_game play line
FarOf Duel play line = IsFarOf duel_text (duel_game play.setup.players) play line

-- a fault: a line is named that can't be read, and a writer that failed has a front of what is to be
-- written, but not all of it
abbrev pub IsFault : GameName → List ℕ → Option (List ℕ) → Option (List ℕ) → PlayFault → Type 0
IsFault game text old new (Unreadable line) = IsUnreadable (FarOf game) line text
IsFault game text old new NoMemory = ⊤
IsFault game text old new Read = ⊤
IsFault game text old new Write =
    (written : List ℕ) × (refused : ℕ) × IsOutput (WritesOf game) text written refused
    × AppendsPart old new written

-- how the program ends for a text, where these bytes were written before and after
abbrev pub EndsBy : GameName → List ℕ → Option (List ℕ) → Option (List ℕ) → ℕ → Option PlayFault
    → Type 0
EndsBy game text old new status None =
    (written : List ℕ) × (refused : ℕ) × IsOutput (WritesOf game) text written refused
    × Appends old new written × (status ≡ (if refused == 0 then 0 else 1))
EndsBy game text old new status (Some fault) = (status ≡ 2) × IsFault game text old new fault

abbrev pub Ends : GameName → List ℕ → Option (List ℕ) → Option (List ℕ) → Ending → Type 0
Ends game text old new ending = EndsBy game text old new ending.status ending.fault
