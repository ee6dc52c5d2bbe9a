-- Whole scripts.
use Rattle.std.specs.Prelude.{◌≡◌, ℕ, List, ◌∷◌, ◌++◌, map, Option, Some, None}
use Rattle.std.specs.List.{AllByRecursion}
use Rattle.roll_text.specs.Lines.{ended, text_of}
use Rattle.roll_text.specs.Text.{Spells}
use Rattle.prog_scripts.specs.declared.command.Command.{Command}
use Rattle.prog_scripts.specs.declared.script.Script.{Script}
use Rattle.prog_scripts.specs.Commands.{IsCommand, line_of}
use Rattle.prog_scripts.specs.Headers.{Setup, IsSetup, header_of, setup_of}

-- what a script says: how its session is opened, and what is asked of it
pub record Play : Type 0 where
  pub setup : Setup
  pub commands : List Command

abbrev pub play_of : Script → Play
play_of script = record { setup = setup_of script.header; commands = script.commands.items }

pub record IsPlay (play : Play) : Type 0 where
  pub setup : IsSetup play.setup
  pub commands : AllByRecursion IsCommand play.commands

-- its lines: the header's, and one for each command
abbrev pub play_lines : Play → List (List ℕ)
play_lines play = header_of play.setup ∷ map line_of play.commands

-- the texts that can be played
abbrev pub IsScript : List ℕ → Type 0
IsScript text = Spells IsPlay play_lines text

-- the commands whose lines the text is
pub record AreCommands (text : List ℕ) (commands : List Command) : Type 0 where
  pub each : AllByRecursion IsCommand commands
  pub spelled : text ≡ text_of (map line_of commands)

-- the command in the first line of a text, and what follows that line; none where no command's line comes first
abbrev pub CutsCommand : List ℕ → Option (Command × List ℕ) → Type 0
CutsCommand text (Some cut) = IsCommand cut.0 × (text ≡ ended (line_of cut.0) ++ cut.1)
CutsCommand text None =
    (command : Command) (after : List ℕ) → IsCommand command
    → text ≡ ended (line_of command) ++ after → ⊥

-- a header's line comes first, and then the lines of commands alone
pub record IsOutlined (setup : Setup) (rest text : List ℕ) : Type 0 where
  pub fits : IsSetup setup
  pub whole : text ≡ ended (header_of setup) ++ rest
  pub commands : List Command
  pub are : AreCommands rest commands
