-- What the words ask for.
use Rattle.std.specs.Prelude.{◌≤◌, ◌+◌, ◌-◌, ◌^◌, ◌&&◌, ◌||◌, ℕ, Bool, false, List, Option, None, Some, ⊤, codes, if◌then◌else◌, is_some, min, nat_le, nat_lt, option_and_then, option_map, unwrap_or}
use Rattle.std.specs.Str.{bytes_eq}
use Rattle.std.specs.Str.Parse.{digits_value, without_leading_plus}
use Rattle.clap.specs.Simple.{subcommand_of}
use Rattle.clap.specs.ValueTests.{is_numeral}
use Rattle.clap.specs.Walk.{Row, Text, byte_or_zero, first_of}
use Rattle.prog_command_line.specs.Commands.{rollduel_app}
use Rattle.prog_command_line.specs.declared.picture.OptionFault.{OptionFault}
use Rattle.prog_command_line.specs.declared.picture.OptionFault.TheVariants.{ManyFrames, NoFrames, NoPicture}
use Rattle.prog_command_line.specs.declared.picture.PictureRequest.{PictureRequest}
use Rattle.prog_command_line.specs.declared.picture.PictureWindow.{PictureWindow}
use Rattle.prog_command_line.specs.declared.picture.TheConstants.{FRAME_LIMIT}
use Rattle.prog_command_line.specs.declared.request.Game.{Game}
use Rattle.prog_command_line.specs.declared.request.Game.TheVariants.{Tally, Duel}
use Rattle.prog_command_line.specs.declared.request.Input.{Input}
use Rattle.prog_command_line.specs.declared.request.Input.TheVariants.{Standard, File}
use Rattle.prog_command_line.specs.declared.request.LiveOptions.{LiveOptions}
use Rattle.prog_command_line.specs.declared.request.Request.{Request}
use Rattle.prog_command_line.specs.declared.request.Request.TheVariants as request
use Rattle.prog_command_line.specs.declared.request.TextTask.{TextTask}
use Rattle.prog_command_line.specs.declared.request.TextTask.TheVariants.{Play, SyncTest, Certify}

-- the path of an input, none of standard input
abbrev pub path_of : Input → Option Text
path_of Standard = None
path_of (File path) = Some path.now

-- the path that the value of FILE names
abbrev pub path_named : Option Text → Option Text
path_named None = None
path_named (Some value) = if bytes_eq value (codes "-") then None else Some value

-- the game that the value of --game names
abbrev pub game_named : Option Text → Game
game_named None = Tally
game_named (Some value) = if bytes_eq value (codes "duel") then Duel else Tally

-- the number that the value of --frames names in decimal; what names none below 256, and no parse takes, counts as 0
abbrev pub frames_named : Option Text → ℕ
frames_named None = 1
frames_named (Some value) = byte_or_zero value

-- the number of so many bits that a text names in decimal; one that names none counts as 0
abbrev pub number_in : ℕ → Text → ℕ
number_in bits text =
    let digits = without_leading_plus text in
    if is_numeral digits && nat_lt (digits_value 10 digits) (2 ^ bits) then digits_value 10 digits else 0

abbrev pub number_named : ℕ → Option Text → ℕ
number_named bits None = 0
number_named bits (Some value) = number_in bits value

-- the number that the value of --workers names; what isn't from 1 to 4, and no parse takes, counts as 1
abbrev pub workers_in : ℕ → ℕ
workers_in n = if nat_le 1 n && nat_le n 4 then n else 1

abbrev pub workers_named : Option Text → ℕ
workers_named value = workers_in (number_named 8 value)

-- whether the value of a flag says that it was given
abbrev pub is_named : Option Text → Bool
is_named None = false
is_named (Some value) = bytes_eq value (codes "true")

-- the task of the command of this name, with these values of --game and --frames
abbrev pub task_named : Text → Option Text → Option Text → TextTask
task_named name game frames = if bytes_eq name (codes "certify") then Certify
    else (if bytes_eq name (codes "synctest") then SyncTest (game_named game) (frames_named frames) else Play (game_named game))

-- how a script is to be played live, where `value` gives the value of each argument
abbrev pub live_named : (Text → Option Text) → LiveOptions
live_named value = record { game = game_named (value (codes "game")); workers = workers_named (value (codes "workers")) }

-- the number that the value of an option names, if it is given
abbrev pub frame_named : Option Text → Option ℕ
frame_named = option_map (number_in 32)

-- the frame after the last one of a picture that begins at this frame, if none is named
abbrev pub end_after : ℕ → ℕ
end_after from = min (from + FRAME_LIMIT) (2 ^ 32 - 1)

-- what a picture is to show
abbrev pub window_named : (Text → Option Text) → PictureWindow
window_named value = record {
  from = number_named 32 (value (codes "from"));
  to = unwrap_or (frame_named (value (codes "to"))) (end_after (number_named 32 (value (codes "from"))));
  tree = frame_named (value (codes "tree"));
}

-- a picture that is asked for: the path of its file, and what it is to show
abbrev pub Picture : Type 0
Picture = Text × PictureWindow

abbrev pub picture_of : Option PictureRequest → Option Picture
picture_of = option_map (λ asked. (asked.path.now, asked.window))

abbrev pub picture_named : (Text → Option Text) → Option Picture
picture_named value = option_map (λ path. (path, window_named value)) (value (codes "picture"))

-- whether a part of a picture is named
abbrev pub names_part : (Text → Option Text) → Bool
names_part value =
    is_some (value (codes "from")) || (is_some (value (codes "to")) || is_some (value (codes "tree")))

-- why no picture shows this: it has no frame, or too many
abbrev pub window_fault : PictureWindow → Option OptionFault
window_fault window =
    if nat_le window.to window.from then Some NoFrames else
    (if nat_lt FRAME_LIMIT (window.to - window.from) then Some (ManyFrames window.from window.to) else None)

-- why what options say can't be followed: a picture that can't be drawn, or a part of no picture
abbrev pub option_fault : (Text → Option Text) → Option OptionFault
option_fault value =
    if is_some (value (codes "picture")) then window_fault (window_named value)
    else (if names_part value then Some NoPicture else None)

-- what is asked for: something with a text, the path of which is none where it is standard input, and whether that is
-- to be explained; a script that is played live; or nothing, for what is said of a picture can't be followed
pub data Asked : Type 0 where
  on_text : Option Text → TextTask → Bool → Asked
  live : Option Text → LiveOptions → Asked
  refused : OptionFault → Asked

abbrev pub asked_of : Request → Asked
asked_of (request.Text asked) = on_text (path_of asked.input) asked.task asked.explain
asked_of (request.Live input how) = live (path_of input) how
asked_of (request.Refused fault) = refused fault

-- there are 1 to 4 workers
abbrev pub HasWorkers : Request → Type 0
HasWorkers (request.Live input how) = (1 ≤ how.workers) × (how.workers ≤ 4)
HasWorkers _ = ⊤

-- what the command of this name asks for, but for a picture
abbrev pub work_named : Text → (Text → Option Text) → Asked
work_named name value = if bytes_eq name (codes "live") then live (path_named (value (codes "FILE"))) (live_named value)
    else on_text (path_named (value (codes "FILE"))) (task_named name (value (codes "game")) (value (codes "frames"))) (is_named (value (codes "explain")))

-- the same, unless what is said of a picture can't be followed
abbrev pub unless : Option OptionFault → Asked → Asked
unless None asked = asked
unless (Some fault) asked = refused fault

abbrev pub asked_named : Text → (Text → Option Text) → Asked
asked_named name value = unless (option_fault value) (work_named name value)

-- what a command with these arguments asks for, or no command
abbrev pub asked_in : Option (Text × List Row) → Asked
asked_in None = on_text None (Play Tally) false
asked_in (Some met) = asked_named met.0 (λ name. first_of name met.1)

-- what the words ask for, of which the first is the program's name
abbrev pub asked_by : List Text → Asked
asked_by words = asked_in (subcommand_of rollduel_app words)

-- the picture that a command with these arguments asks for, or no command
abbrev pub picture_in : Option (Text × List Row) → Option Picture
picture_in = option_and_then (λ met. picture_named (λ name. first_of name met.1))

-- the picture that the words ask for
abbrev pub picture_by : List Text → Option Picture
picture_by words = picture_in (subcommand_of rollduel_app words)
