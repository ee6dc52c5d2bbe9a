-- A field as bytes: numbers are big-endian, and signed ones in two's complement.
use Rattle.std.specs.Prelude.{ℕ, zero, suc, ◌+◌, ◌*◌, List, [], ◌∷◌, ◌++◌, length, drop, take, ℤ, flat_map, slice_index}
use Rattle.std.specs.Int.{w16, w32, to_be_bytes, from_be_bytes, cast_unsigned, cast_signed}
use Rattle.roll_frame.specs.declared.row.Cell.{Cell}
use Rattle.roll_duel.specs.declared.ship.Ship.{Ship}
use Rattle.roll_duel.specs.declared.bullet.Bullet.{Bullet}
use Rattle.roll_duel.specs.Frame.{Field, frame_of}

abbrev pub signed_bytes : ℤ → List ℕ
signed_bytes speed = to_be_bytes w16 (cast_unsigned w16 speed)

unfoldable pub ship_bytes : Ship → List ℕ
ship_bytes ship =
    to_be_bytes w32 ship.x ++ (to_be_bytes w32 ship.y ++ (signed_bytes ship.vx ++ (signed_bytes ship.vy ++ (ship.heading ∷ ship.cool ∷ to_be_bytes w16 ship.hits))))

unfoldable pub bullet_bytes : Bullet → List ℕ
bullet_bytes bullet =
    bullet.owner ∷ bullet.life ∷ (to_be_bytes w32 bullet.x ++ (to_be_bytes w32 bullet.y ++ (signed_bytes bullet.vx ++ signed_bytes bullet.vy)))

-- the numbers of ships and of bullets, the ships and the bullets
unfoldable pub bytes_of : Field → List ℕ
bytes_of field = length field.ships ∷ length field.bullets ∷ (flat_map ship_bytes field.ships ++ flat_map bullet_bytes field.bullets)

-- the numbers that begin at a place
abbrev pub number_at : List ℕ → ℕ → ℕ
number_at bytes place = from_be_bytes w32 (take 4 (drop place bytes))

abbrev pub small_at : List ℕ → ℕ → ℕ
small_at bytes place = from_be_bytes w16 (take 2 (drop place bytes))

abbrev pub speed_at : List ℕ → ℕ → ℤ
speed_at bytes place = cast_signed w16 (small_at bytes place)

unfoldable pub ship_of : List ℕ → Ship
ship_of bytes =
    record { x = number_at bytes 0; y = number_at bytes 4; vx = speed_at bytes 8; vy = speed_at bytes 10; heading = slice_index bytes 12; cool = slice_index bytes 13; hits = small_at bytes 14 }

unfoldable pub bullet_of : List ℕ → Bullet
bullet_of bytes =
    record { owner = slice_index bytes 0; life = slice_index bytes 1; x = number_at bytes 2; y = number_at bytes 6; vx = speed_at bytes 10; vy = speed_at bytes 12 }

-- the first ships or bullets of these bytes
unfoldable pub ships_of : ℕ → List ℕ → List Ship
ships_of zero bytes = []
ships_of (suc count) bytes = ship_of bytes ∷ ships_of count (drop 16 bytes)

unfoldable pub bullets_of : ℕ → List ℕ → List Bullet
bullets_of zero bytes = []
bullets_of (suc count) bytes = bullet_of bytes ∷ bullets_of count (drop 14 bytes)

-- the field that bytes hold
unfoldable pub field_of : List ℕ → Field
field_of bytes = record { ships = ships_of (slice_index bytes 0) (drop 2 bytes); bullets = bullets_of (slice_index bytes 1) (drop (2 + 16 * slice_index bytes 0) bytes) }

-- the bytes after a frame
unfoldable pub step : List ℕ → List Cell → List ℕ
step value row = bytes_of (frame_of (field_of value) row)
