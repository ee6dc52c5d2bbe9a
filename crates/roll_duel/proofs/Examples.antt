-- What the definitions give for the opening and for single frames.
use Rattle.std.specs.Prelude.{◌≡◌, ℕ, zero, suc, List, [], ◌∷◌, replicate, length, pos, neg_ℤ, refl}
use Rattle.roll_frame.specs.declared.row.Cell.{Cell}
use Rattle.roll_frame.specs.declared.row.Cell.TheVariants.{Word, Gone}
use Rattle.roll_duel.specs.declared.ship.Ship.{Ship}
use Rattle.roll_duel.specs.declared.bullet.Bullet.{Bullet}
use Rattle.roll_duel.specs.Ships.{opening_ships, ship_after, pad_of, placed}
use Rattle.roll_duel.specs.Bullets.{flown}
use Rattle.roll_duel.specs.Frame.{Field, frame_of, opening_of}
use Rattle.roll_duel.specs.Bytes.{bytes_of, ship_bytes, bullet_bytes, field_of, ships_of, ship_of, bullets_of, bullet_of, step}

abbrev opening_bytes : List ℕ
opening_bytes =
    2 ∷ 0
    ∷ 0 ∷ 0 ∷ 80 ∷ 0 ∷ 0 ∷ 0 ∷ 60 ∷ 0 ∷ 0 ∷ 0 ∷ 0 ∷ 0 ∷ 0 ∷ 0 ∷ 0 ∷ 0
    ∷ 0 ∷ 0 ∷ 240 ∷ 0 ∷ 0 ∷ 0 ∷ 180 ∷ 0 ∷ 0 ∷ 0 ∷ 0 ∷ 0 ∷ 4 ∷ 0 ∷ 0 ∷ 0
    ∷ []

abbrev fired_bytes : List ℕ
fired_bytes =
    2 ∷ 1
    ∷ 0 ∷ 0 ∷ 80 ∷ 0 ∷ 0 ∷ 0 ∷ 60 ∷ 0 ∷ 0 ∷ 0 ∷ 0 ∷ 0 ∷ 0 ∷ 8 ∷ 0 ∷ 0
    ∷ 0 ∷ 0 ∷ 240 ∷ 0 ∷ 0 ∷ 0 ∷ 180 ∷ 0 ∷ 0 ∷ 0 ∷ 0 ∷ 0 ∷ 4 ∷ 0 ∷ 0 ∷ 0
    ∷ 1 ∷ 59 ∷ 0 ∷ 0 ∷ 82 ∷ 0 ∷ 0 ∷ 0 ∷ 60 ∷ 0 ∷ 2 ∷ 0 ∷ 0 ∷ 0
    ∷ []

pub opening_is : bytes_of (opening_of 2) ≡ opening_bytes
unfolding bytes_of ship_bytes bullet_bytes
opening_is = refl

pub fired_is : step opening_bytes (Word 8 ∷ Word 0 ∷ []) ≡ fired_bytes
unfolding bytes_of ship_bytes bullet_bytes field_of ships_of ship_of bullets_of bullet_of step
fired_is = refl

-- the first ship of a field after a frame with one word of player 1
abbrev alone : Ship → ℕ → Ship
alone ship word = ship_after (pad_of word) [] ship

pub wraps_right : alone (record (placed 81900 0 0) { vx = pos 32 }) 0 ≡ record (placed 12 0 0) { vx = pos 32 }
wraps_right = refl

pub wraps_left : alone (record (placed 10 0 0) { vx = neg_ℤ (pos 32) }) 0 ≡ record (placed 81898 0 0) { vx = neg_ℤ (pos 32) }
wraps_left = refl

pub wrapped_bytes : ship_bytes (record (placed 81898 0 0) { vx = neg_ℤ (pos 32) }) ≡ 0 ∷ 1 ∷ 63 ∷ 234 ∷ 0 ∷ 0 ∷ 0 ∷ 0 ∷ 255 ∷ 224 ∷ 0 ∷ 0 ∷ 0 ∷ 0 ∷ 0 ∷ 0 ∷ []
unfolding ship_bytes
wrapped_bytes = refl

pub turns_left : alone (placed 0 0 0) 2 ≡ placed 0 0 7
turns_left = refl

pub turns_right : alone (placed 0 0 0) 4 ≡ placed 0 0 1
turns_right = refl

pub turns_neither : alone (placed 0 0 0) 6 ≡ placed 0 0 0
turns_neither = refl

pub speed_held : alone (record (placed 0 0 0) { vx = pos 510 }) 1 ≡ record (placed 512 0 0) { vx = pos 512 }
speed_held = refl

abbrev flying : ℕ → ℕ → Bullet
flying life x = record { owner = 1; life = life; x = x; y = 46080; vx = pos 512; vy = pos 0 }

abbrev silence : List Cell
silence = Word 0 ∷ Word 0 ∷ []

pub hits_at_the_edge : frame_of (record { ships = opening_ships 2; bullets = flying 1 58880 ∷ [] }) silence ≡ record { ships = placed 20480 15360 0 ∷ record (placed 61440 46080 4) { hits = 1 } ∷ []; bullets = [] }
hits_at_the_edge = refl

pub misses_past_it : frame_of (record { ships = opening_ships 2; bullets = flying 1 58879 ∷ [] }) silence ≡ opening_of 2
misses_past_it = refl

pub full_of_bullets : frame_of (record { ships = opening_ships 2; bullets = replicate 32 (flying 9 0) }) (Word 8 ∷ []) ≡ record { ships = opening_ships 2; bullets = replicate 32 (flown (flying 9 0)) }
full_of_bullets = refl

abbrev thrust_twice : Field
thrust_twice = frame_of (frame_of (opening_of 2) (Word 1 ∷ Gone ∷ [])) (Word 1 ∷ Gone ∷ [])

pub thrusts : frame_of (opening_of 2) (Word 1 ∷ Word 0 ∷ []) ≡ record { ships = record (placed 20496 15360 0) { vx = pos 16 } ∷ placed 61440 46080 4 ∷ []; bullets = [] }
thrusts = refl

pub thrusts_again : thrust_twice ≡ record { ships = record (placed 20528 15360 0) { vx = pos 32 } ∷ placed 61440 46080 4 ∷ []; bullets = [] }
thrusts_again = refl

-- frames with one word of player 1
abbrev frames_with : ℕ → ℕ → Field → Field
frames_with word zero field = field
frames_with word (suc count) field = frames_with word count (frame_of field (Word word ∷ []))

abbrev hot : Field
hot = record { ships = record (placed 0 0 0) { cool = 8 } ∷ placed 61440 46080 4 ∷ []; bullets = [] }

pub still_cooling : (frames_with 8 7 hot).bullets ≡ []
still_cooling = refl

pub fires_in_the_eighth : length (frames_with 8 8 hot).bullets ≡ 1
fires_in_the_eighth = refl
