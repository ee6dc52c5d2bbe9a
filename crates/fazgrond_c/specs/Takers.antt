-- What a call of a taker comes to.
use Rattle.std.specs.Prelude.{◌≡◌, ◌≢◌, ◌⊎◌, ◌<◌, ◌≤◌, ℕ, ℤ, pos, List, not, ◌&&◌, false, slice_index_or, Option, Some, None, Result, Ok, Err, if◌then◌else◌}
use Rattle.sha2.specs.Sha256.{sha256}
use Rattle.roll_contact.specs.Keys.{greeting_key}
use Rattle.roll_mesh.specs.declared.limits.TheConstants.{MACHINE_LIMIT}
use Rattle.roll_state.specs.States.{count_of, taker_fault}
use Rattle.roll_state.specs.Taking.{after_ask, after_received, is_allowed, left_in, opened_taker, received, said_ask, Taking}
use Rattle.roll_state.specs.declared.heard.Heard.{Heard}
use Rattle.roll_state.specs.declared.refusal.StateFault.{StateFault}
use Rattle.roll_state.specs.declared.refusal.StateRefusal.{StateRefusal}
use Rattle.fazgrond_c.specs.Written.{AreWritten}
use Rattle.fazgrond_c.specs.StateKinds.{code_of_end, code_of_state, heard_out, name_in, AreCopied}
use Rattle.fazgrond_c.specs.declared.open.Open.{Open}
use Rattle.fazgrond_c.specs.declared.open.Open.TheVariants.{Taker}
use Rattle.fazgrond_c.specs.declared.state_kinds.HeardOut.{HeardOut}
use Rattle.fazgrond_c.specs.declared.state_kinds.NameOut.{NameOut}
use Rattle.fazgrond_c.specs.declared.state_kinds.TakerOut.{TakerOut}

abbrev pub taker_in : Option Open → Option Taking
taker_in (Some (Taker taker)) = Some taker
taker_in held = None

-- no piece of the state of this name is there
pub record IsOpened (name : NameOut) (limit : ℕ) (taker : Taking) : Type 0 where
  pub empty : taker ≡ opened_taker (name_in name)
  pub accepted : taker_fault name.length limit ≡ None

-- why nobody takes a state: it has no bytes, or more than the limit, or memory ran out
abbrev pub IsWhyClosed : NameOut → (limit : ℕ) → ℤ → Type 0
IsWhyClosed name limit code =
    ((why : StateFault) × ((taker_fault name.length limit ≡ Some why) × (code ≡ pos (code_of_end why)))) ⊎ (code ≡ pos 107)

-- how many pieces the state has, and how many are missing
abbrev pub taker_out : Taking → TakerOut
taker_out t = record { pieces = count_of t.name.length; left = left_in t.held }

-- whether pieces of a machine are taken for now, if there may be such a machine
pub record IsTakenOf (machine : ℕ) (old new : Taking) (before after : ℕ) (code : ℤ) : Type 0 where
  pub kept : new ≡ old
  pub none : MACHINE_LIMIT ≤ machine → (code ≡ pos 303) × (after ≡ before)
  pub told : machine < MACHINE_LIMIT → (code ≡ pos 0) × (after
      ≡ (if not (slice_index_or old.barred machine false) && is_allowed old.only machine then 1 else 0))

-- pieces of this machine alone are taken from now on, or by 255 of each that didn't give a wrong state; or there is no such machine
pub record IsChosen (machine : ℕ) (old new : Taking) (code : ℤ) : Type 0 where
  pub one : machine < MACHINE_LIMIT → (code ≡ pos 0) × (new ≡ record old { only = Some machine })
  pub all : machine ≡ 255 → (code ≡ pos 0) × (new ≡ record old { only = None })
  pub none : MACHINE_LIMIT ≤ machine → machine ≢ 255 → (code ≡ pos 303) × (new ≡ old)

-- the bytes that ask for the next pieces are written, if any is to be asked for
pub record IsAsking (number sender most : ℕ) (old new : Taking) (before after : List ℕ) (had size : ℕ) (code : ℤ) : Type 0 where
  pub asked : new ≡ after_ask old most
  pub written : AreWritten (said_ask old (greeting_key number) sender most) before after had size code

-- what comes of bytes is written; or the code says why they aren't heard
abbrev pub IsHeard : Result Heard StateRefusal → (before after : HeardOut) → ℤ → Type 0
IsHeard (Ok heard) before after code = (code ≡ pos 0) × (after ≡ heard_out heard)
IsHeard (Err why) before after code = (code ≡ pos (code_of_state why)) × (after ≡ before)

pub record IsReceived (number : ℕ) (bytes : List ℕ) (old new : Taking) (before after : HeardOut) (code : ℤ) : Type 0 where
  pub after_it : new ≡ after_received old (greeting_key number) bytes
  pub heard : IsHeard (received old (greeting_key number) bytes) before after code

-- once no piece is missing, the state's bytes are written, if there is room for all: their digest is that of the name
pub record AreTold (old new : Taking) (before after : List ℕ) (code : ℤ) : Type 0 where
  pub kept : new ≡ old
  pub missing : 1 ≤ left_in old.held → (code ≡ pos 203) × (after ≡ before)
  pub right : left_in old.held ≡ 0 → sha256 old.held.bytes ≡ old.name.digest
  pub copied : left_in old.held ≡ 0 → AreCopied old.held.bytes before after code
