-- The field with all that is on it, and a frame.
use Rattle.std.specs.Prelude.{ℕ, ◌+◌, List, [], ◌∷◌, map, filter, fold}
use Rattle.roll_frame.specs.declared.row.Cell.{Cell}
use Rattle.roll_duel.specs.declared.ship.Ship.{Ship}
use Rattle.roll_duel.specs.declared.bullet.Bullet.{Bullet}
use Rattle.roll_duel.specs.Ships.{word_at, pad_of, ship_after, bullets_after, opening_ships}
use Rattle.roll_duel.specs.Bullets.{flown, struck, remains}

-- ship 1 first, and the oldest bullet
pub record Field : Type 0 where
  pub ships : List Ship
  pub bullets : List Bullet

abbrev pub behind : Ship → Field → Field
behind ship field = record { ships = ship ∷ field.ships; bullets = field.bullets }

-- the ships take their turns in order; the first of them is at this place of the row, and its number is one more
abbrev pub after_ships : List Cell → ℕ → List Ship → List Bullet → Field
after_ships row place [] bullets = record { ships = []; bullets = bullets }
after_ships row place (ship ∷ ships) bullets =
    behind (ship_after (pad_of (word_at row place)) bullets ship)
    (after_ships row (place + 1) ships (bullets_after (pad_of (word_at row place)) (place + 1) ship bullets))

-- then the bullets, also those fired in this frame
abbrev pub after_bullets : Field → Field
after_bullets field =
    record { ships = fold (λ ships bullet. struck bullet 1 ships) field.ships (map flown field.bullets); bullets = filter (remains field.ships) (map flown field.bullets) }

abbrev pub frame_of : Field → List Cell → Field
frame_of field row = after_bullets (after_ships row 0 field.ships field.bullets)

abbrev pub opening_of : ℕ → Field
opening_of count = record { ships = opening_ships count; bullets = [] }
