-- Words that have come, but that a session isn't told yet: guesses with them, and what they would cost.
use Rattle.std.specs.Prelude.{ℕ, ◌-◌, List, Option, option_map}
use Rattle.roll_branch.specs.Routed.{Routed}
use Rattle.roll_frame.specs.Cells.{Rows}
use Rattle.roll_frame.specs.Core.{Core, cost}
use Rattle.roll_frame.specs.Games.{Game}
use Rattle.roll_frame.specs.Timeline.{timeline}
use Rattle.roll_frame.specs.declared.refusal.Refusal.{Refusal}
use Rattle.roll_inputs.specs.Boards.{Inputs}
use Rattle.roll_inputs.specs.Foretold.{foretold, foretold_refusal, foretold_until_refusal}
use Rattle.roll_inputs.specs.declared.remote_word.RemoteWord.{RemoteWord}
use Rattle.roll_session.specs.Guessing.{job_from, kept_of, rows_job}
use Rattle.roll_session.specs.Held.{inputs_of}
use Rattle.roll_session.specs.Saves.{Standing}
use Rattle.roll_session.specs.Seen.{Seen, Step, game_of}
use Rattle.roll_session.specs.Standing.{rows_from}

-- the rows from the settled frame to another, if these words were told
abbrev pub foretold_rows : Inputs → List RemoteWord → ℕ → Rows
foretold_rows inputs words until = rows_from (foretold inputs.players words) inputs.settled (until - inputs.settled)

-- how many of those to the current frame aren't kept
abbrev pub rerun_along : {S : Type 0} → Standing S → List RemoteWord → ℕ
rerun_along s words = s.inputs.frame - s.inputs.settled - kept_of s (foretold_rows s.inputs words s.inputs.frame)

-- the core, if these words were told
abbrev pub foretold_core : Core → List RemoteWord → Core
foretold_core core words = record core { players = foretold core.players words }

-- the job of a guess with these words that is not refused; none where all of its rows are kept
abbrev pub words_job : Game → Core → List RemoteWord → ℕ → Option Routed
words_job game core words until = option_map (job_from game core) (rows_job core (timeline (foretold core.players words) until))

abbrev pub words_job_of : Step → Seen → List RemoteWord → ℕ → Option Routed
words_job_of step s words until = words_job (game_of step s) s.core words until

-- how many frames a roll to the current frame would advance the game, if these words were told
abbrev pub rerun_of : Seen → List RemoteWord → ℕ
rerun_of s words = cost (foretold_core s.core words) s.core.frame

-- why these words are refused, if they are, and why a guess with them is
abbrev pub words_refusal_of : Seen → List RemoteWord → Option Refusal
words_refusal_of s words = foretold_refusal s.core.players words

abbrev pub guess_words_refusal_of : Seen → List RemoteWord → ℕ → Option Refusal
guess_words_refusal_of s words until = foretold_until_refusal (inputs_of s.settings s.core) words until
