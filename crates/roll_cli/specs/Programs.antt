-- What the program does with a text, and how it ends.
use Rattle.std.specs.Prelude.{◌≡◌, ◌==◌, ℕ, List, Bool, if◌then◌else◌, Option, Some, None, ⊤}
use Rattle.std.specs.Io.KnownBytes.{Appends}
use Rattle.roll_cert.specs.Texts.{IsClaimText}
use Rattle.roll_text.specs.Streams.{AppendsPart, IsBadAt}
use Rattle.prog_scripts.specs.declared.fault.PlayFault.{PlayFault}
use Rattle.prog_scripts.specs.declared.fault.PlayFault.TheVariants.{Unreadable, NoMemory, Read, Write}
use Rattle.prog_scripts.specs.declared.ending.Ending.{Ending}
use Rattle.prog_scripts.specs.declared.ending.GameName.TheVariants.{Tally, Duel}
use Rattle.prog_scripts.specs.declared.task.Task.{Task}
use Rattle.prog_scripts.specs.declared.task.Task.TheVariants.{Play, SyncTest, Certify}
use Rattle.roll_cli.specs.Certified.{IsCertified}
use Rattle.prog_scripts.specs.Output.{IsOutput, output, refusals, tally_game, duel_output, duel_refusals}
use Rattle.prog_scripts.specs.Plays.{IsScript}
use Rattle.prog_scripts.specs.RowsFiles.{IsRowsText}
use Rattle.roll_cli.specs.SyncTests.{IsDuelSynced, IsTallySynced}
use Rattle.roll_game.specs.Shown.{tally_text}

-- the texts that a task can read
abbrev pub IsReadable : Task → List ℕ → Type 0
IsReadable (Play game) text = IsScript text
IsReadable (SyncTest game frames) text = IsRowsText text
IsReadable Certify text = IsClaimText text

-- what a task writes of a text that it can read, and whether all is well: no reply is a refusal, no frame came out
-- different, or the claim is right
abbrev pub IsDone : Task → List ℕ → List ℕ → Bool → Type 0
IsDone (Play Tally) text written well =
    (refused : ℕ)
    × IsOutput (output tally_text tally_game) (refusals tally_game) text written refused
    × (well ≡ (refused == 0))
IsDone (Play Duel) text written well =
    (refused : ℕ) × IsOutput duel_output duel_refusals text written refused
    × (well ≡ (refused == 0))
IsDone (SyncTest Tally frames) text written well = IsTallySynced frames text written well
IsDone (SyncTest Duel frames) text written well = IsDuelSynced frames text written well
IsDone Certify text written well = IsCertified text written well

-- a fault of a task: a line is named that can't be read, and a writer that failed has a front of what is to be
-- written, but not all of it
abbrev pub IsFault : Task → List ℕ → Option (List ℕ) → Option (List ℕ) → PlayFault → Type 0
IsFault task text old new (Unreadable line) = IsBadAt (IsReadable task) line text
IsFault task text old new NoMemory = ⊤
IsFault task text old new Read = ⊤
IsFault task text old new Write =
    (written : List ℕ) × (well : Bool) × IsDone task text written well
    × AppendsPart old new written

-- how the program ends for a task and a text, where these bytes were written before and after
abbrev pub EndsBy : Task → List ℕ → Option (List ℕ) → Option (List ℕ) → ℕ → Option PlayFault
    → Type 0
EndsBy task text old new status None =
    (written : List ℕ) × (well : Bool) × IsDone task text written well
    × Appends old new written × (status ≡ (if well then 0 else 1))
EndsBy task text old new status (Some fault) = (status ≡ 2) × IsFault task text old new fault

abbrev pub Ends : Task → List ℕ → Option (List ℕ) → Option (List ℕ) → Ending → Type 0
Ends task text old new ending = EndsBy task text old new ending.status ending.fault
