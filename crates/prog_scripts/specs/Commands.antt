-- The commands of a script, and their lines.
use Rattle.std.specs.Prelude.{ℕ, ◌≤◌, List, [], ◌∷◌, length, codes}
use Rattle.std.specs.List.{join_with_byte}
use Rattle.std.specs.Fmt.{decimal}
use Rattle.roll_frame.specs.declared.limits.TheConstants.{PATH_LIMIT}
use Rattle.roll_text.specs.Numbers.{IsWord, IsList, list_of}
use Rattle.prog_scripts.specs.declared.command.Command.{Command}
use Rattle.prog_scripts.specs.declared.command.Command.TheVariants.{Local, Remote, Disconnect, Sync, Advance, Guess, Extend, Claim}

abbrev pub IsCommand : Command → Type 0
IsCommand (Local player word) = IsWord player × IsWord word
IsCommand (Remote player frame word) = IsWord player × IsWord frame × IsWord word
IsCommand (Disconnect player) = IsWord player
IsCommand Sync = Unit {0}
IsCommand Advance = Unit {0}
IsCommand (Guess player until words) =
    IsWord player × IsWord until × IsList words.items × (length words.items ≤ PATH_LIMIT)
IsCommand (Extend job) = IsWord job
IsCommand Claim = Unit {0}

abbrev pub fields_of : Command → List (List ℕ)
fields_of (Local player word) = codes "L" ∷ decimal player ∷ decimal word ∷ []
fields_of (Remote player frame word) =
    codes "R" ∷ decimal player ∷ decimal frame ∷ decimal word ∷ []
fields_of (Disconnect player) = codes "D" ∷ decimal player ∷ []
fields_of Sync = codes "S" ∷ []
fields_of Advance = codes "A" ∷ []
fields_of (Guess player until words) =
    codes "G" ∷ decimal player ∷ decimal until ∷ list_of words.items ∷ []
fields_of (Extend job) = codes "B" ∷ decimal job ∷ []
fields_of Claim = codes "C" ∷ []

-- a command's line, without its end
abbrev pub line_of : Command → List ℕ
line_of command = join_with_byte 32 (fields_of command)
