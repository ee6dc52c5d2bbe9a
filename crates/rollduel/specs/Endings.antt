-- How the program ends.
use Rattle.std.specs.Prelude.{◌≡◌, ◌≢◌, ◌≤◌, ◌⊎◌, ℕ, List, [], ◌∷◌, IfSome, MatchOption, Option, None, Some, Result, Ok, Err, option_map, string_bytes, ⊤}
use Rattle.clap.specs.Kinds.{Kinds}
use Rattle.clap.specs.declared.error.kind.ErrorKind.{ErrorKind}
use Rattle.clap.specs.declared.error.kind.ErrorKind.TheVariants.{DisplayHelp, DisplayVersion, OutOfMemory}
use Rattle.prog_scripts.specs.declared.fault.PlayFault.{PlayFault}
use Rattle.prog_scripts.specs.declared.fault.PlayFault.TheVariants.{NoMemory, Read, Write}
use Rattle.prog_scripts.specs.declared.ending.Ending.{Ending}
use Rattle.clap.specs.Walk.{Text}
use Rattle.std.specs.declared.alloc.Global.{Global}
use Rattle.std.specs.declared.string.String.{String}
use Rattle.prog_explain.specs.Pictured.{IsShown}
use Rattle.prog_scripts.specs.declared.task.Task.{Task}
use Rattle.prog_picture.specs.declared.scene.Window.{Window}
use Rattle.rollduel.specs.declared.picture.Done.{Done}
use Rattle.prog_command_line.specs.declared.picture.OptionFault.{OptionFault}

-- the program ends with a fault
abbrev pub faulted : PlayFault → Ending
faulted fault = record { status = 2; fault = Some fault }

-- the words are refused, and why is told
abbrev pub misused : Ending
misused = record { status = 2; fault = None }

-- 0, 1 or 2, and 2 at a fault
abbrev pub HasStatus : Ending → Type 0
HasStatus ending = MatchOption ending.fault (ending.status ≤ 2) (λ fault. ending.status ≡ 2)

-- how the program ends at words of which the picture can't be drawn
abbrev pub EndsUnpictured : Ending → OptionFault → Type 0
EndsUnpictured ending fault = (ending ≡ misused) ⊎ (ending ≡ faulted NoMemory)

-- the file and the text of the picture that is to be saved: one that was made, where nothing failed
abbrev pub picture_after : Option PlayFault → Option Text → Option Text → Option (Text × Text)
picture_after None (Some path) (Some text) = Some (path, text)
picture_after _ _ _ = None

abbrev pub to_save : Done → Option (Text × Text)
to_save done = picture_after done.ending.fault (option_map (λ path. path.now) done.path) (option_map string_bytes done.picture)

-- how the program ends where its work ended so, and the picture was saved or couldn't be
abbrev pub ending_after : {E : Type 0} → Ending → Result (Unit {0}) E → Ending
ending_after ending (Ok saved) = ending
ending_after ending (Err error) = faulted Write

-- the status after help, or after a fault of usage
abbrev pub usage_status : ErrorKind → ℕ
usage_status DisplayHelp = 0
usage_status DisplayVersion = 0
usage_status _ = 2

-- help or a fault of usage was printed, or couldn't be
abbrev pub IsTold : ErrorKind → Ending → Type 0
IsTold kind ending = (ending ≡ record { status = usage_status kind; fault = None }) ⊎ (ending ≡ faulted Write)

-- the same, unless memory ran out
abbrev pub IsPrinted : ErrorKind → Ending → Type 0
IsPrinted kind ending = ((kind ≡ OutOfMemory) × (ending ≡ faulted NoMemory)) ⊎ ((kind ≢ OutOfMemory) × IsTold kind ending)

-- one of the kinds was told
abbrev pub IsToldOfOne : Kinds → Ending → Type 0
IsToldOfOne [] ending = ⊥
IsToldOfOne (kind ∷ kinds) ending = IsTold kind ending ⊎ IsToldOfOne kinds ending

-- how the program ends at words that fail by one of the kinds; where there is none, they don't fail
abbrev pub EndsRefused : Kinds → Ending → Type 0
EndsRefused [] ending = ⊤
EndsRefused (kind ∷ kinds) ending = (ending ≡ faulted NoMemory) ⊎ IsToldOfOne (kind ∷ kinds) ending

-- how the program ends, where `ends` says it for a text, what was written before and after, and the ending, and where the
-- writer was old and is new
module _ {W : Type 0} (contents : W → Option (List ℕ)) (ends : List ℕ → Option (List ℕ) → Option (List ℕ) → Ending → Type 0) (old new : W) (ending : Ending) where
  -- with the text that a reader holds, if it tells
  abbrev pub EndsOn : Option (List ℕ) → Type 0
  EndsOn held = IfSome held (λ text. ends text (contents old) (contents new) ending)

  -- with the text of a file, if it can be opened
  abbrev pub EndsOnFile : {F E : Type 0} → (F → Option (List ℕ)) → Result F E → Type 0
  EndsOnFile remaining (Ok file) = EndsOn (remaining file)
  EndsOnFile remaining (Err error) = (ending ≡ faulted Read) × (new ≡ old)

-- the picture that is there after a task, where a reader held this text, if it tells: the one that is asked for, unless there
-- was a fault
module _ (task : Task) (window : Option Window) (ending : Ending) (picture : Option (String Global)) where
  abbrev pub ShowsOn : Option (List ℕ) → Type 0
  ShowsOn held = ending.fault ≡ None → IfSome held (λ text. IsShown task window text picture)

  -- where it was a file's text, if it could be opened
  abbrev pub ShowsOnFile : {F E : Type 0} → (F → Option (List ℕ)) → Result F E → Type 0
  ShowsOnFile remaining (Ok file) = ShowsOn (remaining file)
  ShowsOnFile remaining (Err error) = ⊤
