-- A state of a game: its bytes, its name, and its pieces.
use Rattle.std.specs.Prelude.{◌≡◌, ◌≤◌, ℕ, ◌+◌, ◌-◌, ◌*◌, ◌/◌, List, ◌++◌, length, take, drop, min, replicate, Bool, ◌&&◌, ◌==◌, ◌^◌, nat_lt, Option, Some, None, if◌then◌else◌}
use Rattle.std.specs.Str.{bytes_eq}
use Rattle.sha2.specs.Sha256.{sha256}
use Rattle.roll_state.specs.declared.limits.TheConstants.{PIECE_LIMIT}
use Rattle.roll_state.specs.declared.name.StateName.{StateName}
use Rattle.roll_state.specs.declared.refusal.StateFault.{StateFault}
use Rattle.roll_state.specs.declared.refusal.StateFault.TheVariants.{Empty, TooLong}

-- ---- names

abbrev pub name_of : (which frame : ℕ) → List ℕ → StateName
name_of which frame state = record {
  which = which;
  frame = frame;
  length = length state;
  digest = sha256 state;
}

-- a name is that of a state
pub record IsNameOf (name : StateName) (state : List ℕ) : Type 0 where
  pub some : 1 ≤ length state
  pub all : name.length ≡ length state
  pub digest : name.digest ≡ sha256 state

-- the name of a state of which nothing is known but which one it is
abbrev pub unknown : (which frame : ℕ) → StateName
unknown which frame = record {
  which = which;
  frame = frame;
  length = 0;
  digest = replicate 32 0;
}

abbrev pub is_same : StateName → StateName → Bool
is_same one other =
    (one.which == other.which) && ((one.frame == other.frame)
    && ((one.length == other.length) && bytes_eq one.digest other.digest))

-- why nobody gives so many bytes, and why nobody takes a state of so many if a program allows no more than a limit
abbrev pub giver_fault : (len : ℕ) → Option StateFault
giver_fault len = if len == 0 then Some Empty else (if nat_lt len (2 ^ 32) then None else Some TooLong)

abbrev pub taker_fault : (len limit : ℕ) → Option StateFault
taker_fault len limit =
    if len == 0 then Some Empty else (if nat_lt limit len then Some TooLong else None)

-- ---- pieces

-- how many a state of so many bytes has
abbrev pub count_of : ℕ → ℕ
count_of len = (len + (PIECE_LIMIT - 1)) / PIECE_LIMIT

-- how many bytes the piece at a place has
abbrev pub size_of : (len place : ℕ) → ℕ
size_of len place = min (len - PIECE_LIMIT * place) PIECE_LIMIT

abbrev pub piece_of : List ℕ → (place : ℕ) → List ℕ
piece_of state place = take PIECE_LIMIT (drop (PIECE_LIMIT * place) state)

-- bytes with a piece in its place
abbrev pub with_piece : (place : ℕ) → List ℕ → List ℕ → List ℕ
with_piece place piece bytes =
    take (PIECE_LIMIT * place) bytes
    ++ (piece ++ drop (PIECE_LIMIT * place + length piece) bytes)
