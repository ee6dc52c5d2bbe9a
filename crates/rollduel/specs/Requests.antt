-- What the words ask for, as the parts of the program take it.
use Rattle.std.specs.Prelude.{◌≤◌, Bool, List, Option, ⊤, option_map}
use Rattle.clap.specs.Walk.{Text}
use Rattle.prog_command_line.specs.Requests as line
use Rattle.prog_command_line.specs.Requests.{path_of}
use Rattle.prog_command_line.specs.declared.picture.OptionFault.{OptionFault}
use Rattle.prog_command_line.specs.declared.picture.PictureWindow.{PictureWindow}
use Rattle.prog_command_line.specs.declared.request.Game.{Game}
use Rattle.prog_command_line.specs.declared.request.Game.TheVariants as game
use Rattle.prog_command_line.specs.declared.request.LiveOptions.{LiveOptions}
use Rattle.prog_command_line.specs.declared.request.TextRequest.{TextRequest as AskedText}
use Rattle.prog_command_line.specs.declared.request.TextTask.{TextTask}
use Rattle.prog_command_line.specs.declared.request.TextTask.TheVariants as task
use Rattle.prog_scripts.specs.declared.ending.GameName.{GameName}
use Rattle.prog_scripts.specs.declared.ending.GameName.TheVariants.{Tally, Duel}
use Rattle.prog_scripts.specs.declared.task.Task.{Task}
use Rattle.prog_scripts.specs.declared.task.Task.TheVariants.{Play, SyncTest, Certify}
use Rattle.roll_live.specs.declared.program.Live.{Live}
use Rattle.prog_picture.specs.declared.scene.Window.{Window}
use Rattle.rollduel.specs.declared.command_line.Request.{Request}
use Rattle.rollduel.specs.declared.command_line.Request.TheVariants as request
use Rattle.rollduel.specs.declared.command_line.TextRequest.{TextRequest}
use Rattle.rollduel.specs.declared.picture.PictureRequest.{PictureRequest}

-- what the command line names, and what the parts of the program call it

abbrev pub game_as : Game → GameName
game_as game.Tally = Tally
game_as game.Duel = Duel

abbrev pub task_as : TextTask → Task
task_as (task.Play played) = Play (game_as played)
task_as (task.SyncTest tested frames) = SyncTest (game_as tested) frames
task_as task.Certify = Certify

abbrev pub text_as : AskedText → TextRequest
text_as asked = record { input = asked.input; task = task_as asked.task; explain = asked.explain }

abbrev pub live_as : LiveOptions → Live
live_as live = record { game = game_as live.game; workers = live.workers }

abbrev pub window_as : PictureWindow → Window
window_as window = record { from = window.from; to = window.to; tree = window.tree }

-- what is asked for: something with a text, the path of which is none where it is standard input, and whether that is
-- to be explained; a script that is played live; or nothing, for what is said of a picture can't be followed
pub data Asked : Type 0 where
  on_text : Option Text → Task → Bool → Asked
  live : Option Text → Live → Asked
  refused : OptionFault → Asked

abbrev pub asked_of : Request → Asked
asked_of (request.Text asked) = on_text (path_of asked.input) asked.task asked.explain
asked_of (request.Live input how) = live (path_of input) how
asked_of (request.Refused fault) = refused fault

-- there are 1 to 4 workers
abbrev pub HasWorkers : Request → Type 0
HasWorkers (request.Live input how) = (1 ≤ how.workers) × (how.workers ≤ 4)
HasWorkers _ = ⊤

-- what the words ask for, of which the first is the program's name
abbrev pub asked_as : line.Asked → Asked
asked_as (line.on_text path task explain) = on_text path (task_as task) explain
asked_as (line.live path how) = live path (live_as how)
asked_as (line.refused fault) = refused fault

abbrev pub asked_by : List Text → Asked
asked_by words = asked_as (line.asked_by words)

-- a picture that is asked for: the path of its file, and what it is to show
abbrev pub Picture : Type 0
Picture = Text × Window

abbrev pub picture_of : Option PictureRequest → Option Picture
picture_of = option_map (λ asked. (asked.path.now, asked.window))

-- the picture that the words ask for
abbrev pub picture_as : Option line.Picture → Option Picture
picture_as = option_map (λ picture. (picture.0, window_as picture.1))

abbrev pub picture_by : List Text → Option Picture
picture_by words = picture_as (line.picture_by words)

-- what the picture that the words ask for is to show
abbrev pub window_by : List Text → Option Window
window_by words = option_map (λ picture. picture.1) (picture_by words)

-- a fact where something with a text is asked for
abbrev pub IfText : Asked → (Option Text → Task → Type 0) → Type 0
IfText (on_text path task explain) P = P path task
IfText _ P = ⊤

-- a fact where a script is to be played live
abbrev pub IfLive : Asked → (Option Text → Live → Type 0) → Type 0
IfLive (live path how) P = P path how
IfLive _ P = ⊤

-- a fact where what is said of a picture can't be followed
abbrev pub IfRefused : Asked → (OptionFault → Type 0) → Type 0
IfRefused (refused fault) P = P fault
IfRefused _ P = ⊤
