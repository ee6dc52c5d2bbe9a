-- What a sync test of a file's rows writes.
use Rattle.std.specs.Prelude.{◌≡◌, ◌<◌, ◌≤◌, ℕ, zero, suc, ◌+◌, ◌%◌, ◌==◌, List, [], ◌∷◌, ◌++◌, codes, length, map, take, slice_index_or, Bool, true, false, is_none, MatchOption, ◌&&◌, if◌then◌else◌}
use Rattle.std.specs.Int.{is_in_range}
use Rattle.std.specs.Option.{option_map_or}
use Rattle.std.specs.Fmt.{decimal}
use Rattle.roll_frame.specs.Cells.{Rows}
use Rattle.roll_frame.specs.Games.{Value}
use Rattle.roll_frame.specs.declared.refusal.Refusal.TheVariants.{PlayerOutOfRange}
use Rattle.roll_game.specs.Divergence.{Ran, IsReached, Diverges}
use Rattle.roll_synctest.specs.Tests.{start_refusal}
use Rattle.roll_synctest.specs.declared.verdict.Verdict.{Verdict}
use Rattle.roll_synctest.specs.declared.verdict.Verdict.TheVariants.{Run, Verified, Mismatch}
use Rattle.roll_text.specs.Lines.{ended, text_of}
use Rattle.prog_scripts.specs.Output.{refused_line}
use Rattle.prog_scripts.specs.RowsFiles.{RowsFile, IsRowsFile, file_lines}

abbrev pub verdict_line : Verdict → List ℕ
verdict_line Run = codes "run"
verdict_line (Verified count) = codes "verified " ++ decimal count
verdict_line (Mismatch frame) = codes "mismatch " ++ decimal frame

-- what is said of the row with this number, from 1, where so many frames are verified at once: they are with each row whose
-- number is a multiple of theirs
abbrev pub verdict_of : ℕ → ℕ → Verdict
verdict_of frames number = if number % frames == 0 then Verified number else Run

-- what is said of so many rows where no frame comes out different
abbrev pub verdicts_of : ℕ → ℕ → List Verdict
verdicts_of frames zero = []
verdicts_of frames (suc count) = verdicts_of frames count ++ verdict_of frames (suc count) ∷ []

-- with the row after so many, this frame comes out different: the rows before it may lead from the opening to a value that
-- its row leads to two different ones
pub record IsMismatched (ran : Ran) (opening : Value) (frames : ℕ) (rows : Rows) (count frame : ℕ)
    : Type 0 where
  pub within : count < length rows
  pub due : (count + 1) % frames ≡ 0
  pub reached : frame ≤ count
  pub late : count < frame + frames
  pub before : Value
  pub agreed : IsReached ran opening (take frame rows) before
  pub differs : Diverges ran before (slice_index_or rows frame [] ∷ [])

-- what is said of the rows: of all, where all is well, or up to a mismatch
abbrev pub AreSaid : Ran → Value → ℕ → Rows → List Verdict → Bool → Type 0
AreSaid ran opening frames rows verdicts true = verdicts ≡ verdicts_of frames (length rows)
AreSaid ran opening frames rows verdicts false =
    (count frame : ℕ) × (verdicts ≡ verdicts_of frames count ++ Mismatch frame ∷ [])
    × IsMismatched ran opening frames rows count frame

-- what a test of the rows writes, and whether all is well: a refusal, where it doesn't start
abbrev pub IsTold : Ran → Value → ℕ → Rows → List ℕ → Bool → Type 0
IsTold ran opening frames rows written well =
    MatchOption (start_refusal frames)
    ((verdicts : List Verdict) × (written ≡ text_of (map verdict_line verdicts))
    × AreSaid ran opening frames rows verdicts well)
    (λ why. (written ≡ ended (refused_line why)) × (well ≡ false))

-- the text is a file's, of whose rows a test writes this
pub record IsTested (ran : Ran) (opening : Value) (frames : ℕ) (text written : List ℕ) (well : Bool)
    : Type 0 where
  pub file : RowsFile
  pub fits : IsRowsFile file
  pub spelled : text ≡ text_of (file_lines file)
  pub told : IsTold ran opening frames file.rows written well

-- what a test of so many rows of a game writes, which never comes out different
abbrev pub sync_output : ℕ → ℕ → List ℕ
sync_output frames count =
    option_map_or (λ why. ended (refused_line why)) (start_refusal frames)
    (text_of (map verdict_line (verdicts_of frames count)))

abbrev pub is_startable : ℕ → Bool
is_startable frames = is_none (start_refusal frames)

-- the ship duel has as many ships as the rows players; where there can't be so many, that is all that is written
abbrev pub duel_sync_output : ℕ → RowsFile → List ℕ
duel_sync_output frames file =
    if is_in_range 2 4 file.players then sync_output frames (length file.rows)
    else ended (refused_line PlayerOutOfRange)

abbrev pub is_duel_startable : ℕ → RowsFile → Bool
is_duel_startable frames file = is_in_range 2 4 file.players && is_startable frames

-- what a test of such a file writes, and whether all is well
abbrev pub IsDuelTold : ℕ → RowsFile → List ℕ → Bool → Type 0
IsDuelTold frames file written well =
    (written ≡ duel_sync_output frames file) × (well ≡ is_duel_startable frames file)

-- the text is a file's, of which this is written, and whether all is well
pub record IsSynced (output_of : RowsFile → List ℕ) (well_of : RowsFile → Bool)
    (text written : List ℕ) (well : Bool) : Type 0 where
  pub file : RowsFile
  pub fits : IsRowsFile file
  pub spelled : text ≡ text_of (file_lines file)
  pub output_is : written ≡ output_of file
  pub well_is : well ≡ well_of file

-- of a tally, and of a duel
abbrev pub IsTallySynced : ℕ → List ℕ → List ℕ → Bool → Type 0
IsTallySynced frames text written well =
    IsSynced (λ file. sync_output frames (length file.rows)) (λ file. is_startable frames)
    text written well

abbrev pub IsDuelSynced : ℕ → List ℕ → List ℕ → Bool → Type 0
IsDuelSynced frames text written well =
    IsSynced (duel_sync_output frames) (is_duel_startable frames) text written well
