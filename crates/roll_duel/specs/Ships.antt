-- What a ship does in a frame, step by step.
use Rattle.std.specs.Prelude.{ℕ, ◌+◌, ◌-◌, ◌%◌, List, [], ◌∷◌, ◌++◌, length, take, ℤ, pos, neg_ℤ, ◌+ℤ◌, ◌*ℤ◌, Bool, not, ◌&&◌, ◌==◌, nat_lt, if◌then◌else◌, bit_and, slice_get, slice_index_or}
use Rattle.std.specs.Int.{int_min, int_max}
use Rattle.std.specs.Option.{option_map_or}
use Rattle.roll_frame.specs.declared.row.Cell.{Cell}
use Rattle.roll_frame.specs.Words.{word_of}
use Rattle.roll_duel.specs.declared.pad.Pad.{Pad}
use Rattle.roll_duel.specs.declared.ship.Ship.{Ship}
use Rattle.roll_duel.specs.declared.bullet.Bullet.{Bullet}
use Rattle.roll_duel.specs.Space.{width, height, moved_by}

-- the word of the player at a place, 0 for player 1; a player that is gone or not in the row has word 0
abbrev pub word_at : List Cell → ℕ → ℕ
word_at row place = option_map_or word_of (slice_get row place) 0

abbrev pub is_pressed : ℕ → ℕ → Bool
is_pressed word button = not (bit_and word button == 0)

abbrev pub pad_of : ℕ → Pad
pad_of word = record { thrust = is_pressed word 1; left = is_pressed word 2; right = is_pressed word 4; fire = is_pressed word 8 }

-- the direction of each heading, to the right and downwards
abbrev pub headings : List (ℤ × ℤ)
headings =
    (pos 16, pos 0)
    ∷ (pos 11, pos 11)
    ∷ (pos 0, pos 16)
    ∷ (neg_ℤ (pos 11), pos 11)
    ∷ (neg_ℤ (pos 16), pos 0)
    ∷ (neg_ℤ (pos 11), neg_ℤ (pos 11))
    ∷ (pos 0, neg_ℤ (pos 16))
    ∷ (pos 11, neg_ℤ (pos 11))
    ∷ []

abbrev pub direction : ℕ → ℤ × ℤ
direction heading = slice_index_or headings heading (pos 0, pos 0)

-- 1. left without right, or right without left
abbrev pub turned : Pad → Ship → Ship
turned pad ship =
    if pad.left && not pad.right then record ship { heading = (ship.heading + 7) % 8 }
    else (if pad.right && not pad.left then record ship { heading = (ship.heading + 1) % 8 } else ship)

-- 2. a speed grows, and is held to what a ship may have
abbrev pub held : ℤ → ℤ
held speed = int_max (neg_ℤ (pos 512)) (int_min (pos 512) speed)

abbrev pub thrust : Pad → Ship → Ship
thrust pad ship =
    if pad.thrust then record ship { vx = held (ship.vx +ℤ (direction ship.heading).0); vy = held (ship.vy +ℤ (direction ship.heading).1) }
    else ship

-- 3.
abbrev pub cooled : Ship → Ship
cooled ship = record ship { cool = ship.cool - 1 }

-- 4. a ship fires where its gun is cool and there are fewer than 32 bullets
abbrev pub fires : Pad → List Bullet → Ship → Bool
fires pad bullets ship = pad.fire && (ship.cool == 0) && nat_lt (length bullets) 32

abbrev pub shot_by : ℕ → Ship → Bullet
shot_by number ship =
    record { owner = number; life = 60; x = ship.x; y = ship.y; vx = ship.vx +ℤ (pos 32 *ℤ (direction ship.heading).0); vy = ship.vy +ℤ (pos 32 *ℤ (direction ship.heading).1) }

abbrev pub fired : Pad → List Bullet → Ship → Ship
fired pad bullets ship = if fires pad bullets ship then record ship { cool = 8 } else ship

abbrev pub with_shot : Pad → ℕ → Ship → List Bullet → List Bullet
with_shot pad number ship bullets = if fires pad bullets ship then bullets ++ shot_by number ship ∷ [] else bullets

-- 5.
abbrev pub moved : Ship → Ship
moved ship = record ship { x = moved_by width ship.vx ship.x; y = moved_by height ship.vy ship.y }

-- 1 to 3, 1 to 5
abbrev pub steered : Pad → Ship → Ship
steered pad ship = cooled (thrust pad (turned pad ship))

abbrev pub ship_after : Pad → List Bullet → Ship → Ship
ship_after pad bullets ship = moved (fired pad bullets (steered pad ship))

abbrev pub bullets_after : Pad → ℕ → Ship → List Bullet → List Bullet
bullets_after pad number ship bullets = with_shot pad number (steered pad ship) bullets

-- a ship at the opening
abbrev pub placed : ℕ → ℕ → ℕ → Ship
placed x y heading = record { x = x; y = y; vx = pos 0; vy = pos 0; heading = heading; cool = 0; hits = 0 }

abbrev pub opening_ships : ℕ → List Ship
opening_ships count = take count (placed 20480 15360 0 ∷ placed 61440 46080 4 ∷ placed 61440 15360 4 ∷ placed 20480 46080 0 ∷ [])
