-- How many jobs commands give.
use Rattle.std.proofs.Common.{◌≤◌, ◌+◌, length, length-append, List, [], ◌∷◌, arith, Option, Some, None}
use Rattle.std.specs.Prelude.{Result, Ok, Err}
use Rattle.std.proofs.lemmas.List.{length-set}
use Rattle.roll_branch.specs.Routed.{Routed}
use Rattle.roll_frame.specs.Games.{Game}
use Rattle.roll_frame.specs.declared.refusal.Refusal.{Refusal}
use Rattle.roll_frame.specs.declared.settings.Settings.{Settings}
use Rattle.prog_scripts.specs.declared.command.Command.{Command}
use Rattle.prog_scripts.specs.declared.command.Command.TheVariants.{Local as Gives, Remote as Tells, Disconnect as Leaves, Sync as Syncs, Advance as Advances, Guess, Extend, Claim}
use Rattle.prog_scripts.specs.Output.{Playing, after_command, guessed, with_job}

-- a command gives at most one job
with_job_within : (jobs : List (Option Routed)) (result : Result (Option Routed) Refusal) → length (with_job jobs result) ≤ length jobs + 1
with_job_within jobs (Ok (Some job)) = omega (arith, length-append jobs (Some job ∷ []))
with_job_within jobs (Ok None) = omega arith
with_job_within jobs (Err why) = omega arith

pub jobs_within : (settings : Settings) (game : Game) (playing : Playing) (command : Command) → length (after_command settings game playing command).jobs ≤ length playing.jobs + 1
jobs_within settings game playing (Guess player until words) = with_job_within playing.jobs (guessed settings game playing.core player words.items until)
jobs_within settings game playing (Extend job) = omega (arith, length-set playing.jobs job None)
jobs_within settings game playing (Gives player word) = omega arith
jobs_within settings game playing (Tells player frame word) = omega arith
jobs_within settings game playing (Leaves player) = omega arith
jobs_within settings game playing Syncs = omega arith
jobs_within settings game playing Advances = omega arith
jobs_within settings game playing Claim = omega arith
