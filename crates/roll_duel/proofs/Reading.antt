-- The bytes of a field hold it.
use Rattle.std.proofs.Common.{◌≡◌, ℕ, suc, ◌+◌, ◌*◌, List, [], ◌∷◌, ◌++◌, length, drop, refl, sym, ap, ◌∙◌, arith, append_assoc, drop-drop, w16, w32, ℤ, FitsSigned}
use Rattle.std.specs.Prelude.{flat_map, All, Bool, true, false, IsTrue, ◌↔◌}
use Rattle.std.specs.Int.{to_be_bytes, from_be_bytes, cast_signed, cast_unsigned}
use Rattle.std.proofs.lemmas.Int.{ints, to_z-of_z, fits_signed_from_abs}
use Rattle.std.proofs.lemmas.Nat.{from_be_bytes-to_be_bytes_2, from_be_bytes-to_be_bytes_4}
use Rattle.roll_frame.specs.declared.row.Cell.{Cell}
use Rattle.roll_duel.specs.declared.ship.Ship.{Ship}
use Rattle.roll_duel.specs.declared.bullet.Bullet.{Bullet}
use Rattle.roll_duel.specs.Frame.{Field, frame_of}
use Rattle.roll_duel.specs.Ranges.{IsShip, IsBullet, IsField, IsSpeed}
use Rattle.roll_duel.specs.Bytes.{signed_bytes, ship_bytes, bullet_bytes, bytes_of, ship_of, bullet_of, ships_of, bullets_of, field_of, step}

pub ship_bytes_are : (ship : Ship) → ship_bytes ship ≡ to_be_bytes w32 ship.x ++ (to_be_bytes w32 ship.y ++ (signed_bytes ship.vx ++ (signed_bytes ship.vy ++ (ship.heading ∷ ship.cool ∷ to_be_bytes w16 ship.hits))))
unfolding ship_bytes
ship_bytes_are ship = refl

pub bullet_bytes_are : (bullet : Bullet) → bullet_bytes bullet ≡ bullet.owner ∷ bullet.life ∷ (to_be_bytes w32 bullet.x ++ (to_be_bytes w32 bullet.y ++ (signed_bytes bullet.vx ++ signed_bytes bullet.vy)))
unfolding bullet_bytes
bullet_bytes_are bullet = refl

pub fits_slow : (speed : ℤ) → IsSpeed 512 speed → FitsSigned w16 speed
fits_slow speed h = fits_signed_from_abs w16 speed (omega (arith, ints))

pub fits_fast : (speed : ℤ) → IsSpeed 1024 speed → FitsSigned w16 speed
fits_fast speed h = fits_signed_from_abs w16 speed (omega (arith, ints))

-- a speed's two bytes are read as that speed
speed_back : (speed : ℤ) → FitsSigned w16 speed → cast_signed w16 (from_be_bytes w16 (signed_bytes speed)) ≡ speed
speed_back speed h =
    ap (cast_signed w16) (from_be_bytes-to_be_bytes_2 (cast_unsigned w16 speed) (omega (arith, ints))) ∙ to_z-of_z w16 speed h

-- the bytes of one ship, and then others
ship_back : (ship : Ship) (others : List ℕ) → IsShip ship → ship_of (ship_bytes ship ++ others) ≡ ship
unfolding ship_bytes ship_of
ship_back ship others h = λ i. record {
  x = from_be_bytes-to_be_bytes_4 ship.x (omega arith) i;
  y = from_be_bytes-to_be_bytes_4 ship.y (omega arith) i;
  vx = speed_back ship.vx (fits_slow ship.vx h.vx_in) i;
  vy = speed_back ship.vy (fits_slow ship.vy h.vy_in) i;
  heading = ship.heading;
  cool = ship.cool;
  hits = from_be_bytes-to_be_bytes_2 ship.hits (omega arith) i;
}

bullet_back : (bullet : Bullet) (others : List ℕ) → IsBullet bullet → bullet_of (bullet_bytes bullet ++ others) ≡ bullet
unfolding bullet_bytes bullet_of
bullet_back bullet others h = λ i. record {
  owner = bullet.owner;
  life = bullet.life;
  x = from_be_bytes-to_be_bytes_4 bullet.x (omega arith) i;
  y = from_be_bytes-to_be_bytes_4 bullet.y (omega arith) i;
  vx = speed_back bullet.vx (fits_fast bullet.vx h.vx_in) i;
  vy = speed_back bullet.vy (fits_fast bullet.vy h.vy_in) i;
}

ship_drops : (ship : Ship) (others : List ℕ) → drop 16 (ship_bytes ship ++ others) ≡ others
unfolding ship_bytes
ship_drops ship others = refl

bullet_drops : (bullet : Bullet) (others : List ℕ) → drop 14 (bullet_bytes bullet ++ others) ≡ others
unfolding bullet_bytes
bullet_drops bullet others = refl

ships_back : (ships : List Ship) (others : List ℕ) → All IsShip ships → ships_of (length ships) (flat_map ship_bytes ships ++ others) ≡ ships
unfolding ships_of
ships_back [] others h = refl
ships_back (ship ∷ ships) others h =
    rw (append_assoc (ship_bytes ship) (flat_map ship_bytes ships) others, ship_back ship (flat_map ship_bytes ships ++ others) (h 0 ship (omega arith)), ship_drops ship (flat_map ship_bytes ships ++ others), ships_back ships others (λ k d l. h (suc k) d (omega arith))) refl

bullets_back : (bullets : List Bullet) → All IsBullet bullets → bullets_of (length bullets) (flat_map bullet_bytes bullets) ≡ bullets
unfolding bullets_of
bullets_back [] h = refl
bullets_back (bullet ∷ bullets) h =
    rw (bullet_back bullet (flat_map bullet_bytes bullets) (h 0 bullet (omega arith)), bullet_drops bullet (flat_map bullet_bytes bullets), bullets_back bullets (λ k d l. h (suc k) d (omega arith))) refl

-- the bullets come after the ships
ships_drop : (ships : List Ship) (others : List ℕ) → drop (16 * length ships) (flat_map ship_bytes ships ++ others) ≡ others
ships_drop [] others = refl
ships_drop (ship ∷ ships) others =
    let e : 16 * suc (length ships) ≡ 16 + 16 * length ships = omega arith in
    rw (e, append_assoc (ship_bytes ship) (flat_map ship_bytes ships) others, ← drop-drop (16 * length ships) 16 (ship_bytes ship ++ (flat_map ship_bytes ships ++ others)), ship_drops ship (flat_map ship_bytes ships ++ others)) (ships_drop ships others)

bullets_there : (field : Field) → IsField field → bullets_of (length field.bullets) (drop (2 + 16 * length field.ships) (bytes_of field)) ≡ field.bullets
unfolding bytes_of
bullets_there field h =
    rw (← drop-drop (16 * length field.ships) 2 (bytes_of field), ships_drop field.ships (flat_map bullet_bytes field.bullets)) (bullets_back field.bullets h.bullets_in)

pub field_back : (field : Field) → IsField field → field_of (bytes_of field) ≡ field
unfolding bytes_of field_of
field_back field h = λ i. record {
  ships = ships_back field.ships (flat_map bullet_bytes field.bullets) h.ships_in i;
  bullets = bullets_there field h i;
}

-- two fields with the same bytes are one
pub same_field : (a b : Field) → IsField a → IsField b → bytes_of a ≡ bytes_of b → a ≡ b
same_field a b ha hb e = sym (field_back a ha) ∙ ap field_of e ∙ field_back b hb

-- a frame of a field is a step of its bytes
pub step_is : (field after : Field) (row : List Cell) → IsField field → after ≡ frame_of field row → bytes_of after ≡ step (bytes_of field) row
unfolding step
step_is field after row ok h = ap bytes_of (h ∙ ap (λ (f : Field). frame_of f row) (sym (field_back field ok)))

-- what a comparison says of the bytes, where the ships are the same
pub same_with_ships : (a b : Field) (r : Bool) → IsField a → IsField b → a.ships ≡ b.ships → IsTrue r ↔ (a.bullets ≡ b.bullets) → IsTrue r ↔ (bytes_of a ≡ bytes_of b)
same_with_ships a b r ha hb ships h =
    (λ t. ap bytes_of (λ i. record { ships = ships i; bullets = h.0 t i }), λ e. h.1 (ap (λ (f : Field). f.bullets) (same_field a b ha hb e)))

-- and where they aren't
pub other_ships : (a b : Field) (r : Bool) → IsField a → IsField b → r ≡ false → IsTrue r ↔ (a.ships ≡ b.ships) → IsTrue r ↔ (bytes_of a ≡ bytes_of b)
other_ships a b r ha hb differ h =
    (λ t. let f : false ≡ true = sym differ ∙ t in cc, λ e. h.1 (ap (λ (f : Field). f.ships) (same_field a b ha hb e)))
