-- What is noted of a script's commands that are refused.
use Rattle.std.specs.Prelude.{◌≡◌, ◌+◌, ℕ, List, [], ◌∷◌, ◌++◌, Option, Some, None}
use Rattle.prog_scripts.specs.Output.{Playing, after_command, refusal_by}
use Rattle.prog_scripts.specs.declared.command.Command.{Command}
use Rattle.roll_frame.specs.Games.{Game}
use Rattle.roll_frame.specs.declared.refusal.Refusal.{Refusal}
use Rattle.roll_frame.specs.declared.settings.Settings.{Settings}
use Rattle.prog_explain.specs.Refused.{refused_note}

-- what is noted of this line: nothing, unless it was refused
abbrev pub IsNoted : ℕ → Option Refusal → List ℕ → Type 0
IsNoted line None note = note ≡ []
IsNoted line (Some why) note = (meaning : List ℕ) × (note ≡ refused_note line why meaning)

-- what is noted of lines from this one on
abbrev pub AreNoted : ℕ → List (Option Refusal) → List ℕ → Type 0
AreNoted line [] notes = notes ≡ []
AreNoted line (why ∷ whys) notes =
    (note : List ℕ) × (rest : List ℕ) × IsNoted line why note × AreNoted (line + 1) whys rest
    × (notes ≡ note ++ rest)

-- why commands are refused, one by one
abbrev pub refusals_by : Settings → Game → Playing → List Command → List (Option Refusal)
refusals_by settings game playing [] = []
refusals_by settings game playing (command ∷ commands) =
    refusal_by settings game playing command
    ∷ refusals_by settings game (after_command settings game playing command) commands
