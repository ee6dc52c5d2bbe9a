-- What playing a script writes.
use Rattle.std.specs.Prelude.{◌≡◌, ℕ, ◌+◌, ◌-◌, List, [], ◌∷◌, ◌++◌, codes, length, slice_get, slice_set, Bool, Option, Some, None, Result, Ok, Err, is_none, is_some, option_map, if◌then◌else◌}
use Rattle.std.specs.Fmt.{decimal}
use Rattle.std.specs.Int.{is_in_range}
use Rattle.std.specs.Option.{option_flatten, option_map_or}
use Rattle.std.specs.Result.{result_err}
use Rattle.roll_branch.specs.Routed.{Routed}
use Rattle.roll_cert.specs.Texts.{claim_lines}
use Rattle.roll_duel.specs.Bytes.{bytes_of, step}
use Rattle.roll_duel.specs.Frame.{opening_of}
use Rattle.roll_frame.specs.Claims.{claim_of}
use Rattle.roll_frame.specs.Codes.{code_of}
use Rattle.roll_frame.specs.Core.{Core, end_of, first_core, settled}
use Rattle.roll_frame.specs.Events.{CoreEvent, after, reply}
use Rattle.roll_frame.specs.Games.{Value, Game}
use Rattle.roll_frame.specs.Guess.{guess_tests}
use Rattle.roll_frame.specs.Paths.{run}
use Rattle.roll_frame.specs.Refusals.{first_refusal}
use Rattle.roll_frame.specs.Settings.{start_refusal}
use Rattle.roll_frame.specs.declared.entry.Entry.TheVariants.{Local, Remote, Disconnect, Sync, Advance}
use Rattle.roll_frame.specs.declared.refusal.Refusal.{Refusal}
use Rattle.roll_frame.specs.declared.refusal.Refusal.TheVariants.{PlayerOutOfRange, NoPlan, NoJob}
use Rattle.roll_frame.specs.declared.reply.Reply.{Reply}
use Rattle.roll_frame.specs.declared.reply.Reply.TheVariants.{Refused, Done, Taken, Repeated, Disconnected, Synchronized, Reached, Grafted}
use Rattle.roll_frame.specs.declared.settings.Settings.{Settings}
use Rattle.roll_game.specs.Tally.{tally_step}
use Rattle.roll_session.specs.Calls.{grafting}
use Rattle.roll_session.specs.Guessing.{guess_job}
use Rattle.roll_session.specs.Seen.{Step, plain}
use Rattle.roll_text.specs.Lines.{ended, text_of}
use Rattle.prog_scripts.specs.declared.command.Command.{Command}
use Rattle.prog_scripts.specs.declared.command.Command.TheVariants.{Local as Gives, Remote as Tells, Disconnect as Leaves, Sync as Syncs, Advance as Advances, Guess, Extend, Claim}
use Rattle.prog_scripts.specs.Headers.{Setup, settings_of}
use Rattle.prog_scripts.specs.Plays.{AreCommands, Play, IsPlay, play_lines}
use Rattle.roll_duel.specs.Text.{duel_text}

-- how a game's states are printed, by their values
abbrev pub Texts : Type 0
Texts = Value → List ℕ

abbrev pub refused_line : Refusal → List ℕ
refused_line why = codes "refused " ++ decimal (code_of why)

-- a refusal is all that is written, and counts as one
abbrev pub IsRefusedAlone : Refusal → List ℕ → ℕ → Type 0
IsRefusedAlone why written refused = (written ≡ ended (refused_line why)) × (refused ≡ 1)

-- after a roll: the frame, the roll's numbers, the settled frame, and the state shown
unfoldable pub frame_line : Texts → Game → Core → List ℕ
frame_line texts game core =
    option_map_or (λ roll. option_map_or (λ rows.
    codes "frame " ++ (decimal core.frame ++ (codes " from " ++ (decimal roll.from
    ++ (codes " rerun " ++ (decimal (end_of roll - roll.from)
    ++ (codes " settled " ++ (decimal (settled core)
    ++ (codes " state " ++ texts (run game.step game.opening rows))))))))))
    core.shown []) core.last []

-- the line of a reply, without its end, and the core after its event
abbrev pub reply_line : Texts → Game → Core → Reply → List ℕ
reply_line texts game core (Refused why) = refused_line why
reply_line texts game core Done = codes "ok"
reply_line texts game core Taken = codes "taken"
reply_line texts game core Repeated = codes "repeated"
reply_line texts game core (Disconnected player) = codes "gone " ++ decimal player
reply_line texts game core (Synchronized row) = frame_line texts game core
reply_line texts game core (Reached frame from rerun) = frame_line texts game core
reply_line texts game core (Grafted added) = codes "added " ++ decimal added

-- what a script has come to: the core, and the jobs that guesses gave, in the order of their numbers, each none
-- where it was taken
pub record Playing : Type 0 where
  pub core : Core
  pub jobs : List (Option Routed)

abbrev pub first_playing : Settings → Playing
first_playing settings = record { core = first_core settings; jobs = [] }

-- a job that there is, and wasn't taken
abbrev pub job_at : List (Option Routed) → ℕ → Option Routed
job_at jobs j = option_flatten (slice_get jobs j)

-- what becomes of a guess: a refusal, or its job, if there is one
abbrev pub guessed : Settings → Game → Core → ℕ → List ℕ → ℕ → Result (Option Routed) Refusal
guessed settings game core p words until =
    option_map_or Err (first_refusal (guess_tests settings.limit core p words until))
    (Ok (guess_job game core p words until))

-- the event that a command asks for: none where it asks for a guess or a claim, or there is no such job
abbrev pub asked_by : Playing → Command → Option CoreEvent
asked_by playing (Gives player word) = Some (plain (Local player word))
asked_by playing (Tells player frame word) = Some (plain (Remote player frame word))
asked_by playing (Leaves player) = Some (plain (Disconnect player))
asked_by playing Syncs = Some (plain Sync)
asked_by playing Advances = Some (plain Advance)
asked_by playing (Guess player until words) = None
asked_by playing (Extend job) = option_map grafting (job_at playing.jobs job)
asked_by playing Claim = None

-- the jobs with one more, if a guess gave one
abbrev pub with_job : List (Option Routed) → Result (Option Routed) Refusal → List (Option Routed)
with_job jobs (Ok (Some job)) = jobs ++ Some job ∷ []
with_job jobs none = jobs

-- the jobs after a command: a job is taken, whatever becomes of its branch
abbrev pub jobs_after : Settings → Game → Playing → Command → List (Option Routed)
jobs_after settings game playing (Guess player until words) =
    with_job playing.jobs (guessed settings game playing.core player words.items until)
jobs_after settings game playing (Extend job) = slice_set playing.jobs job None
jobs_after settings game playing command = playing.jobs

abbrev pub after_command : Settings → Game → Playing → Command → Playing
after_command settings game playing command =
    record {
      core =
          option_map_or (after settings game playing.core) (asked_by playing command) playing.core;
      jobs = jobs_after settings game playing command;
    }

-- what an event writes
abbrev pub event_text : Texts → Settings → Game → Core → CoreEvent → List ℕ
event_text texts settings game core event =
    ended (reply_line texts game (after settings game core event) (reply settings game core event))

-- the line of a guess, without its end, where its job has this number
abbrev pub guess_line : ℕ → Result (Option Routed) Refusal → List ℕ
guess_line number (Err why) = refused_line why
guess_line number (Ok None) = codes "kept"
guess_line number (Ok (Some job)) =
    codes "job " ++ (decimal number ++ (codes " rows " ++ decimal (length job.route.rows.items)))

-- the claim of the last roll; a refusal where there is none
unfoldable pub claim_text : Settings → Core → List ℕ
claim_text settings core =
    option_map_or (λ roll. text_of (claim_lines (claim_of settings.players roll)))
    core.last (ended (refused_line NoPlan))

-- what a command writes: a refusal where there is no such job
abbrev pub written_by : Texts → Settings → Game → Playing → Command → List ℕ
written_by texts settings game playing Claim = claim_text settings playing.core
written_by texts settings game playing (Guess player until words) =
    ended (guess_line (length playing.jobs)
    (guessed settings game playing.core player words.items until))
written_by texts settings game playing command =
    option_map_or (event_text texts settings game playing.core)
    (asked_by playing command) (ended (refused_line NoJob))

abbrev pub written_from : Texts → Settings → Game → Playing → List Command → List ℕ
written_from texts settings game playing [] = []
written_from texts settings game playing (command ∷ commands) =
    written_by texts settings game playing command
    ++ written_from texts settings game (after_command settings game playing command) commands

-- the refusal that a reply is, if it is one
abbrev pub refusal_in : Reply → Option Refusal
refusal_in (Refused why) = Some why
refusal_in reply = None

abbrev pub is_refused : Reply → Bool
is_refused reply = is_some (refusal_in reply)

-- why there is no claim, if there is none
abbrev pub claim_refusal : Core → Option Refusal
claim_refusal core = if is_none core.last then Some NoPlan else None

-- why a command is refused, if it is
abbrev pub refusal_by : Settings → Game → Playing → Command → Option Refusal
refusal_by settings game playing Claim = claim_refusal playing.core
refusal_by settings game playing (Guess player until words) =
    result_err (guessed settings game playing.core player words.items until)
refusal_by settings game playing command =
    option_map_or (λ event. refusal_in (reply settings game playing.core event))
    (asked_by playing command) (Some NoJob)

-- whether a command is refused
abbrev pub refused_by : Settings → Game → Playing → Command → Bool
refused_by settings game playing command = is_some (refusal_by settings game playing command)

-- how many of the replies to the commands are refusals
abbrev pub refusals_from : Settings → Game → Playing → List Command → ℕ
refusals_from settings game playing [] = 0
refusals_from settings game playing (command ∷ commands) =
    (if refused_by settings game playing command then 1 else 0)
    + refusals_from settings game (after_command settings game playing command) commands

-- what the commands of a session write, and how many of their replies are refusals: one where the session doesn't start
abbrev pub output_under : Texts → Settings → Game → List Command → List ℕ
output_under texts settings game commands =
    option_map_or (λ why. ended (refused_line why)) (start_refusal settings)
    (written_from texts settings game (first_playing settings) commands)

abbrev pub refusals_under : Settings → Game → List Command → ℕ
refusals_under settings game commands =
    option_map_or (λ why. 1) (start_refusal settings)
    (refusals_from settings game (first_playing settings) commands)

-- what a script writes, and how many of its replies are refusals
abbrev pub output : Texts → Game → Play → List ℕ
output texts game play = output_under texts (settings_of play.setup) game play.commands

abbrev pub refusals : Game → Play → ℕ
refusals game play = refusals_under (settings_of play.setup) game play.commands

-- the game that opens with this value and goes on by this step
abbrev pub game_from : Value → Step → Game
game_from opening next = record { opening = opening; step = next }

abbrev pub tally_game : Game
tally_game = record { opening = 0 ∷ []; step = tally_step }

-- the ship duel has as many ships as the script players
abbrev pub duel_game : ℕ → Game
duel_game ships = record { opening = bytes_of (opening_of ships); step = step }

-- where there can't be so many ships, that is all that is written
abbrev pub duel_output : Play → List ℕ
duel_output play =
    if is_in_range 2 4 play.setup.players
    then output duel_text (duel_game play.setup.players) play
    else ended (refused_line PlayerOutOfRange)

abbrev pub duel_refusals : Play → ℕ
duel_refusals play =
    if is_in_range 2 4 play.setup.players
    then refusals (duel_game play.setup.players) play
    else 1

-- the text is a script's, which writes this, with so many refusals
pub record IsOutput (output_of : Play → List ℕ) (refusals_of : Play → ℕ)
    (text written : List ℕ) (refused : ℕ) : Type 0 where
  pub play : Play
  pub fits : IsPlay play
  pub spelled : text ≡ text_of (play_lines play)
  pub output_is : written ≡ output_of play
  pub refused_is : refused ≡ refusals_of play

-- the text is that of commands, which with this header write this, with so many refusals
pub record IsOutputAfter (setup : Setup) (output_of : Play → List ℕ) (refusals_of : Play → ℕ)
    (text written : List ℕ) (refused : ℕ) : Type 0 where
  pub commands : List Command
  pub are : AreCommands text commands
  pub output_is : written ≡ output_of (record { setup = setup; commands = commands })
  pub refused_is : refused ≡ refusals_of (record { setup = setup; commands = commands })
