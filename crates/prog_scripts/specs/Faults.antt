-- Where a text can't be played.
use Rattle.std.specs.Prelude.{◌≤◌, ℕ, List, length, Option}
use Rattle.std.specs.Io.KnownBytes.{Consumes}
use Rattle.roll_frame.specs.declared.refusal.Refusal.{Refusal}
use Rattle.roll_frame.specs.declared.refusal.Refusal.TheVariants.{Unreadable as UnreadableClaim}
use Rattle.prog_scripts.specs.declared.fault.PlayFault.{PlayFault}
use Rattle.prog_scripts.specs.declared.fault.PlayFault.TheVariants.{Unreadable, NoMemory}
use Rattle.prog_scripts.specs.declared.script.ScriptFault.{ScriptFault}
use Rattle.prog_scripts.specs.declared.script.ScriptFault.TheVariants.{Unreadable as UnreadableScript, NoMemory as NoMemoryForScript}

abbrev pub fault_of_script : ScriptFault → PlayFault
fault_of_script (UnreadableScript line) = Unreadable line
fault_of_script NoMemoryForScript = NoMemory

-- what a claim that wasn't read is to the program
abbrev pub fault_of_claim : Refusal → PlayFault
fault_of_claim (UnreadableClaim line) = Unreadable line
fault_of_claim why = NoMemory

-- no more bytes than this are gone from a reader
abbrev pub TakesAtMost : ℕ → Option (List ℕ) → Option (List ℕ) → Type 0
TakesAtMost most old new = (bytes : List ℕ) × Consumes old new bytes × (length bytes ≤ most)
