-- Reading maps and parcels from left to right, with the first fault that is met.
use Rattle.std.specs.Prelude.{◌≡◌, ℕ, zero, suc, ◌/◌, List, [], ◌∷◌, length, take, drop, min, Option, None, Some, Result, Ok, Err, nat_le, nat_lt, ◌&&◌, ◌||◌, ◌==◌, if◌then◌else◌}
use Rattle.std.specs.Int.{w16, w32}
use Rattle.std.specs.List.{AllByRecursion}
use Rattle.std.specs.Option.{option_map_or}
use Rattle.std.specs.Result.{result_ok}
use Rattle.roll_mesh.specs.declared.limits.TheConstants.{MACHINE_LIMIT}
use Rattle.roll_wire.specs.Reading.{◌>>=◌, byte_at, envelope_at, magic_at, mask_at, number_at, repeated}
use Rattle.roll_wire.specs.declared.datagram.Envelope.{Envelope}
use Rattle.roll_wire.specs.declared.fault.WireFault.{WireFault}
use Rattle.roll_wire.specs.declared.fault.WireFault.TheVariants.{Short, Kind, Trailing}
use Rattle.roll_carry.specs.Spelling.{IsParcel, ParcelValue, area_text}
use Rattle.roll_carry.specs.declared.datagram.Hearing.{Hearing}
use Rattle.roll_carry.specs.declared.limits.TheConstants.{AREA_LIMIT, CARRIED, MAP, TAIL_LEAST, TAIL_LIMIT}

-- what a datagram of a kind begins with
unfoldable pub head_at : (kind : ℕ) → List ℕ → Result (Envelope × List ℕ) WireFault
head_at kind bytes = do
  magic ← magic_at bytes
  envelope ← envelope_at magic.1
  found ← byte_at envelope.1
  if found.0 == kind then Ok (envelope.0, found.1) else Err Kind

unfoldable pub hearing_at : List ℕ → Result (Hearing × List ℕ) WireFault
hearing_at bytes = do
  hears ← mask_at bytes
  number ← number_at w32 hears.1
  Ok (record { hears = hears.0; number = number.0 }, number.1)

-- a map has as many machines as are left, up to the most that a match can have
abbrev pub machine_count : List ℕ → ℕ
machine_count bytes = min (length bytes / 5) MACHINE_LIMIT

-- the map that the whole of the bytes says
unfoldable pub map_of : List ℕ → Result (List Hearing) WireFault
map_of bytes = do
  head ← head_at MAP bytes
  map ← repeated hearing_at (machine_count head.1) head.1
  if length map.1 == 0 then Ok map.0 else Err Trailing

-- so many bytes, which are a datagram's behind its letters
abbrev pub tail_at : ℕ → List ℕ → Result (List ℕ × List ℕ) WireFault
tail_at n bytes =
    if nat_lt n TAIL_LEAST || nat_lt (length bytes) n then Err Short
    else Ok (take n bytes, drop n bytes)

unfoldable pub parcel_at : List ℕ → Result (ParcelValue × List ℕ) WireFault
parcel_at bytes = do
  to ← byte_at bytes
  steps ← byte_at to.1
  size ← number_at w16 steps.1
  tail ← tail_at size.0 size.1
  Ok (record { to = to.0; steps = steps.0; tail = tail.0 }, tail.1)

-- parcels to the end, no more than so many
unfoldable pub parcels_within : (most : ℕ) → List ℕ → Result (List ParcelValue) WireFault
parcels_within most [] = Ok []
parcels_within zero (b ∷ bytes) = Err Short
parcels_within (suc most) (b ∷ bytes) = do
  parcel ← parcel_at (b ∷ bytes)
  others ← parcels_within most parcel.1
  Ok (parcel.0 ∷ others)

-- parcels to the end: each has bytes, so there are no more of them than of these
abbrev pub parcels_at : List ℕ → Result (List ParcelValue) WireFault
parcels_at bytes = parcels_within (length bytes) bytes

-- the parcels that bytes begin with, one behind the other, as many as can be read and no more than so many
unfoldable pub front_within : (most : ℕ) → List ℕ → List ParcelValue
front_within zero bytes = []
front_within (suc most) bytes =
    option_map_or (λ found. found.0 ∷ front_within most found.1) (result_ok (parcel_at bytes)) []

-- all that can be read
abbrev pub parcels_in : List ℕ → List ParcelValue
parcels_in bytes = front_within (length bytes) bytes

-- bytes that are parcels to the end
pub record IsArea (area : List ℕ) : Type 0 where
  pub text : area ≡ area_text (parcels_in area)
  pub fits : AllByRecursion IsParcel (parcels_in area)

-- the parcels that the whole of the bytes says: they have no more room than a datagram has
unfoldable pub parcels_of : List ℕ → Result (List ParcelValue) WireFault
parcels_of bytes = do
  head ← head_at CARRIED bytes
  parcels ← parcels_at (take AREA_LIMIT head.1)
  if length (drop AREA_LIMIT head.1) == 0 then Ok parcels else Err Trailing

-- their text
abbrev pub area_of : List ℕ → Result (List ℕ) WireFault
area_of bytes = do
  parcels ← parcels_of bytes
  Ok (area_text parcels)

-- the first of some parcels, and the text of the others
abbrev pub first_of : List ParcelValue → Option (ParcelValue × List ℕ)
first_of [] = None
first_of (p ∷ parcels) = Some (p, area_text parcels)

-- what is carried of a datagram: all behind its letters, if it has room
abbrev pub with_room : Result (ℕ × List ℕ) WireFault → Option (List ℕ)
with_room (Err fault) = None
with_room (Ok found) =
    if nat_le TAIL_LEAST (length found.1) && nat_le (length found.1) TAIL_LIMIT then Some found.1
    else None

abbrev pub tail_of : List ℕ → Option (List ℕ)
tail_of bytes = with_room (magic_at bytes)
