-- What C sees of a state that is sent in pieces, and the numbers of why no end is opened, and of why bytes aren't heard.
use Rattle.std.specs.Prelude.{◌≡◌, ◌<◌, ◌≤◌, ℕ, ℤ, pos, List, [], ◌∷◌, ◌++◌, drop, length, unwrap_or, Some, MatchOption, Result, Ok, Err}
use Rattle.roll_contact.specs.Keys.{greeting_key}
use Rattle.roll_wire.specs.declared.limits.TheConstants.{DATAGRAM_LIMIT}
use Rattle.roll_state.specs.Sealing.{opened, said_by, sender_of}
use Rattle.roll_state.specs.Spelling.{Content, Gives, Message, Wants}
use Rattle.roll_state.specs.States.{unknown}
use Rattle.roll_state.specs.declared.heard.Heard.{Heard}
use Rattle.roll_state.specs.declared.heard.Heard.TheVariants.{Again, Taken, Whole, Wrong}
use Rattle.roll_state.specs.declared.name.StateName.{StateName}
use Rattle.roll_state.specs.declared.refusal.StateFault.{StateFault}
use Rattle.roll_state.specs.declared.refusal.StateFault.TheVariants.{Empty, NoMemory, TooLong}
use Rattle.roll_state.specs.declared.refusal.StateRefusal.{StateRefusal}
use Rattle.roll_state.specs.declared.refusal.StateRefusal.TheVariants.{Barred, NoDatagram, NotNow, NotSealed, OtherKind, OtherState, PastTheEnd, Stranger, WrongLength}
use Rattle.fazgrond_c.specs.Written.{AreWritten}
use Rattle.fazgrond_c.specs.declared.state_kinds.HeardOut.{HeardOut}
use Rattle.fazgrond_c.specs.declared.state_kinds.NameOut.{NameOut}

abbrev pub name_out : StateName → NameOut
name_out name = record {
  which = name.which;
  frame = name.frame;
  length = name.length;
  digest = name.digest;
}

abbrev pub name_in : NameOut → StateName
name_in name = record {
  which = name.which;
  frame = name.frame;
  length = name.length;
  digest = name.digest;
}

-- what came of a piece; 255 is no machine
abbrev pub heard_out : Heard → HeardOut
heard_out Again = record { what = 1; machine = 255 }
heard_out Taken = record { what = 2; machine = 255 }
heard_out Whole = record { what = 3; machine = 255 }
heard_out (Wrong sole) = record { what = 4; machine = unwrap_or sole 255 }

-- ---- the numbers of refusals

abbrev pub code_of_end : StateFault → ℕ
code_of_end Empty = 11
code_of_end TooLong = 320
code_of_end NoMemory = 107

abbrev pub code_of_state : StateRefusal → ℕ
code_of_state NotSealed = 301
code_of_state (NoDatagram fault) = 302
code_of_state Stranger = 303
code_of_state OtherKind = 314
code_of_state OtherState = 315
code_of_state Barred = 316
code_of_state NotNow = 317
code_of_state PastTheEnd = 318
code_of_state WrongLength = 319

-- ---- what is written

-- bytes are written to the front of a buffer, if it has room for them
pub record AreCopied (bytes before after : List ℕ) (code : ℤ) : Type 0 where
  pub short : length before < length bytes → (code ≡ pos 204) × (after ≡ before)
  pub written : length bytes ≤ length before
      → (code ≡ pos 0) × (after ≡ bytes ++ drop (length bytes) before)

-- ---- without an end

-- who sent bytes is written, if they are a piece or an ask
abbrev pub IsSenderOf : (bytes : List ℕ) → (before after : ℕ) → ℤ → Type 0
IsSenderOf bytes before after code =
    MatchOption (sender_of bytes) ((code ≡ pos 203) × (after ≡ before))
    (λ machine. (code ≡ pos 0) × (after ≡ machine))

-- the bytes that ask for the first piece of a state of which nothing is known but which one it is
abbrev pub first_ask : (number sender which frame : ℕ) → List ℕ
first_ask number sender which frame =
    said_by (greeting_key number) sender (Wants (record { state = unknown which frame; places = 0 ∷ [] }))

-- they are written, if a buffer has room for any datagram; or nothing is
pub record IsFirstAsk (number sender which frame : ℕ) (before after : List ℕ) (had size : ℕ) (code : ℤ) : Type 0 where
  pub short : length before < DATAGRAM_LIMIT → (code ≡ pos 204) × ((after ≡ before) × (size ≡ had))
  pub written : DATAGRAM_LIMIT ≤ length before
      → AreWritten (Some (first_ask number sender which frame)) before after had size code

-- the name of the state that bytes are a piece of
abbrev pub name_said : Content → Result StateName StateRefusal
name_said (Gives part) = Ok part.state
name_said (Wants wish) = Err OtherKind

abbrev pub name_read : Result Message StateRefusal → Result StateName StateRefusal
name_read (Ok said) = name_said said.content
name_read (Err why) = Err why

abbrev pub IsNamed : Result StateName StateRefusal → (before after : NameOut) → ℤ → Type 0
IsNamed (Ok name) before after code = (code ≡ pos 0) × (after ≡ name_out name)
IsNamed (Err why) before after code = (code ≡ pos (code_of_state why)) × (after ≡ before)

abbrev pub IsNameIn : (number : ℕ) → (bytes : List ℕ) → (before after : NameOut) → ℤ → Type 0
IsNameIn number bytes = IsNamed (name_read (opened (greeting_key number) bytes))
