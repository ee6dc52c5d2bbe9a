-- What a call of a viewer comes to.
use Rattle.std.specs.Prelude.{◌≡◌, ℕ, ℤ, pos, List, Option, Some, None, MatchOption, Result, Ok, Err, IfErr, IfOk, OnErr, OnOk, slice_get}
use Rattle.roll_frame.specs.declared.row.Cell.{Cell}
use Rattle.roll_viewer.specs.Ends.{ignored_by_viewer, opened_viewer, viewer_sends, viewer_told, ViewerHears, Viewing}
use Rattle.roll_viewer.specs.Lines.{after_bye, after_refusal, farewell, fault_of, opened as what_is_in}
use Rattle.roll_viewer.specs.Queued.{with_taken}
use Rattle.roll_viewer.specs.declared.refusal.LineRefusal.{LineRefusal}
use Rattle.roll_viewer.specs.declared.settings.LineSettings.{LineSettings}
use Rattle.fazgrond_c.specs.Kinds.{row_out}
use Rattle.fazgrond_c.specs.LineKinds.{code_of_line, AreTold}
use Rattle.fazgrond_c.specs.Lines.{state_of, VIEWER}
use Rattle.fazgrond_c.specs.Written.{AreWritten}
use Rattle.fazgrond_c.specs.declared.kinds.RowOut.{RowOut}
use Rattle.fazgrond_c.specs.declared.line_kinds.LineIn.{LineIn}
use Rattle.fazgrond_c.specs.declared.line_kinds.LineState.{LineState}

-- a viewer who has heard nothing of its host
pub record IsOpened (given : LineIn) (viewer : Viewing) : Type 0 where
  pub settings : LineSettings
  pub are_told : AreTold given settings
  pub accepted : fault_of settings ≡ None
  pub opened : viewer ≡ opened_viewer settings

abbrev pub code_of_hearing : Result ℕ LineRefusal → ℤ
code_of_hearing (Ok count) = pos 0
code_of_hearing (Err why) = pos (code_of_line why)

-- bytes of the host are heard, and it is written how many rows were taken; or they aren't, and what a refusal changes is changed
-- alone
pub record ViewerHearsBytes (bytes : List ℕ) (now : ℕ) (old new : Viewing) (before after : ℕ)
    (code : ℤ) : Type 0 where
  pub result : Result ℕ LineRefusal
  pub heard : IfOk result (ViewerHears old new bytes now)
  pub accepted : OnOk result (ignored_by_viewer old
      (what_is_in old.line old.line.settings.host bytes) ≡ None)
  pub refused : IfErr result (λ why. ignored_by_viewer old
      (what_is_in old.line old.line.settings.host bytes) ≡ Some why)
  pub rest : IfErr result
      (λ why. new ≡ record old {
        line = after_refusal old.line now why
            (what_is_in old.line old.line.settings.host bytes);
      })
  pub written : IfOk result (λ count. after ≡ count)
  pub unwritten : OnErr result (after ≡ before)
  pub code_is : code ≡ code_of_hearing result

-- what is sent to the host is written: a hello, or how many rows the viewer has
pub record IsViewersWord (now : ℕ) (old new : Viewing) (before after : List ℕ) (had size : ℕ)
    (code : ℤ) : Type 0 where
  pub bytes : Option (List ℕ)
  pub sent : bytes ≡ viewer_sends old now
  pub told : new ≡ viewer_told old now
  pub written : AreWritten bytes before after had size code

-- the bytes by which the viewer says that it leaves are written, if the host's draw is believed, and the line has ended
pub record IsViewersBye (old new : Viewing) (before after : List ℕ) (had size : ℕ) (code : ℤ)
    : Type 0 where
  pub ended : new ≡ record old { line = after_bye old.line }
  pub written : AreWritten (farewell old.line VIEWER) before after had size code

-- the first row that waits is taken and written; or none waits
pub record IsSeen (old new : Viewing) (before after : RowOut) (code : ℤ) : Type 0 where
  pub row : Option (List Cell)
  pub which : row ≡ slice_get old.rows.waiting 0
  pub rest : new ≡ record old { rows = with_taken 1 old.rows }
  pub written : MatchOption row ((code ≡ pos 203) × (after ≡ before))
      (λ row. (code ≡ pos 0) × (after ≡ row_out row))

-- how far a viewer is
abbrev pub viewer_state : ℕ → Viewing → LineState
viewer_state now viewer = state_of viewer.line viewer.rows.count viewer.settled now
