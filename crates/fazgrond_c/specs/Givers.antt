-- What a call of a giver comes to.
use Rattle.std.specs.Prelude.{◌≡◌, ◌⊎◌, ℕ, ℤ, pos, List, length, Option, Some, None, Result, Ok, Err}
use Rattle.roll_contact.specs.Keys.{greeting_key}
use Rattle.roll_state.specs.Giving.{reply, Giving}
use Rattle.roll_state.specs.States.{giver_fault, name_of}
use Rattle.roll_state.specs.declared.refusal.StateFault.{StateFault}
use Rattle.roll_state.specs.declared.refusal.StateFault.TheVariants.{NoMemory}
use Rattle.roll_state.specs.declared.refusal.StateRefusal.{StateRefusal}
use Rattle.fazgrond_c.specs.Written.{AreWritten}
use Rattle.fazgrond_c.specs.StateKinds.{code_of_end, code_of_state, AreCopied}
use Rattle.fazgrond_c.specs.declared.open.Open.{Open}
use Rattle.fazgrond_c.specs.declared.open.Open.TheVariants.{Giver}

abbrev pub giver_in : Option Open → Option Giving
giver_in (Some (Giver giver)) = Some giver
giver_in held = None

-- it gives these bytes, the state of this number and of a frame
pub record IsOpened (which frame : ℕ) (bytes : List ℕ) (giver : Giving) : Type 0 where
  pub given : giver ≡ record { name = name_of which frame bytes; bytes = bytes }
  pub accepted : giver_fault (length bytes) ≡ None

-- why nobody gives bytes: they are too few or too many, or memory ran out
abbrev pub IsWhyNot : List ℕ → StateFault → Type 0
IsWhyNot bytes why = (giver_fault (length bytes) ≡ Some why) ⊎ (why ≡ NoMemory)

abbrev pub IsWhyClosed : List ℕ → ℤ → Type 0
IsWhyClosed bytes code = ((why : StateFault) × (IsWhyNot bytes why × (code ≡ pos (code_of_end why)))) ⊎ (code ≡ pos 107)

-- the state's bytes are written, if there is room for all
pub record AreTold (old new : Giving) (before after : List ℕ) (code : ℤ) : Type 0 where
  pub kept : new ≡ old
  pub copied : AreCopied old.bytes before after code

-- what is sent is written; or the code says why bytes aren't answered
abbrev pub IsAnswered : Result (Option (List ℕ)) StateRefusal → (before after : List ℕ) → (had size : ℕ) → ℤ → Type 0
IsAnswered (Ok bytes) before after had size code = AreWritten bytes before after had size code
IsAnswered (Err why) before after had size code =
    (code ≡ pos (code_of_state why)) × ((after ≡ before) × (size ≡ had))

-- what is sent for one of the places that bytes ask for
pub record IsReplied (number sender : ℕ) (asked : List ℕ) (index : ℕ) (old new : Giving) (before after : List ℕ) (had size : ℕ)
    (code : ℤ) : Type 0 where
  pub kept : new ≡ old
  pub answered : IsAnswered (reply old (greeting_key number) sender asked index) before after had size code
