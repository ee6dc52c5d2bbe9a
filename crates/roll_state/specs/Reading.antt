-- Reading a state's datagram from left to right, with the first fault that is met.
use Rattle.std.specs.Prelude.{◌≡◌, ℕ, ◌/◌, List, length, take, drop, min, Result, Ok, Err, nat_lt, ◌==◌, if◌then◌else◌}
use Rattle.std.specs.Int.{w32, w64}
use Rattle.roll_wire.specs.Reading.{◌>>=◌, byte_at, envelope_at, magic_at, number_at, repeated}
use Rattle.roll_wire.specs.declared.fault.WireFault.{WireFault}
use Rattle.roll_wire.specs.declared.fault.WireFault.TheVariants.{Short, Kind, Trailing}
use Rattle.roll_state.specs.Spelling.{Content, Fits, Gives, Message, Part, Wants, Wish, spelling}
use Rattle.roll_state.specs.declared.limits.TheConstants.{ASK, ASK_LIMIT, PIECE, PIECE_LIMIT}
use Rattle.roll_state.specs.declared.name.StateName.{StateName}

-- so many bytes
abbrev pub bytes_at : ℕ → List ℕ → Result (List ℕ × List ℕ) WireFault
bytes_at n bytes =
    if nat_lt (length bytes) n then Err Short else Ok (take n bytes, drop n bytes)

unfoldable pub name_at : List ℕ → Result (StateName × List ℕ) WireFault
name_at bytes = do
  which ← number_at w64 bytes
  frame ← number_at w32 which.1
  length ← number_at w32 frame.1
  digest ← bytes_at 32 length.1
  Ok (
    record { which = which.0; frame = frame.0; length = length.0; digest = digest.0 },
    digest.1,
  )

-- a piece has as many bytes as are left, up to the most that it can have
unfoldable pub part_at : List ℕ → Result (Part × List ℕ) WireFault
part_at bytes = do
  state ← name_at bytes
  place ← number_at w32 state.1
  Ok (
    record { state = state.0; place = place.0; bytes = take PIECE_LIMIT place.1 },
    drop PIECE_LIMIT place.1,
  )

-- an ask has as many places as are left, up to the most that it can have
abbrev pub place_count : List ℕ → ℕ
place_count bytes = min (length bytes / 4) ASK_LIMIT

unfoldable pub wish_at : List ℕ → Result (Wish × List ℕ) WireFault
wish_at bytes = do
  state ← name_at bytes
  places ← repeated (number_at w32) (place_count state.1) state.1
  Ok (record { state = state.0; places = places.0 }, places.1)

-- the kind, and what follows it
unfoldable pub content_at : List ℕ → Result (Content × List ℕ) WireFault
content_at bytes = do
  kind ← byte_at bytes
  if kind.0 == PIECE then (do
    part ← part_at kind.1
    Ok (Gives part.0, part.1))
      else (if kind.0 == ASK then (do
        wish ← wish_at kind.1
        Ok (Wants wish.0, wish.1))
      else Err Kind)

-- the whole of the bytes
unfoldable pub all_of : List ℕ → Result Message WireFault
all_of bytes = do
  magic ← magic_at bytes
  envelope ← envelope_at magic.1
  content ← content_at envelope.1
  if length content.1 == 0 then Ok (record { envelope = envelope.0; content = content.0 })
      else Err Trailing

-- the text of a datagram is read as that datagram
abbrev pub ReadAgain : Type 0
ReadAgain = (m : Message) → Fits m → all_of (spelling m) ≡ Ok m
