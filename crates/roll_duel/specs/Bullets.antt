-- What a bullet does in a frame.
use Rattle.std.specs.Prelude.{ℕ, ◌+◌, ◌-◌, List, [], ◌∷◌, min, Bool, false, not, ◌&&◌, ◌||◌, ◌==◌, nat_lt, nat_le, if◌then◌else◌}
use Rattle.roll_duel.specs.declared.ship.Ship.{Ship}
use Rattle.roll_duel.specs.declared.bullet.Bullet.{Bullet}
use Rattle.roll_duel.specs.Space.{width, height, moved_by, distance}

-- it moves, and has one frame less to live
abbrev pub flown : Bullet → Bullet
flown bullet = record bullet { x = moved_by width bullet.vx bullet.x; y = moved_by height bullet.vy bullet.y; life = bullet.life - 1 }

abbrev pub is_near : Bullet → Ship → Bool
is_near bullet ship = nat_le (distance width ship.x bullet.x) 2048 && nat_le (distance height ship.y bullet.y) 2048

-- whether a bullet hits the ship of this number, which isn't its owner
abbrev pub hits : Bullet → ℕ → Ship → Bool
hits bullet number ship = not (number == bullet.owner) && is_near bullet ship

abbrev pub hit : Ship → Ship
hit ship = record ship { hits = min (ship.hits + 1) 65535 }

-- whether a bullet hits one of these ships, whose numbers begin with this one
abbrev pub hits_any : Bullet → ℕ → List Ship → Bool
hits_any bullet number [] = false
hits_any bullet number (ship ∷ ships) = hits bullet number ship || hits_any bullet (number + 1) ships

-- the ships after a bullet: the first one that it hits has one hit more
abbrev pub struck : Bullet → ℕ → List Ship → List Ship
struck bullet number [] = []
struck bullet number (ship ∷ ships) = if hits bullet number ship then hit ship ∷ ships else ship ∷ struck bullet (number + 1) ships

-- whether a bullet remains: it hits no ship, and has frames to live
abbrev pub remains : List Ship → Bullet → Bool
remains ships bullet = not (hits_any bullet 1 ships) && nat_lt 0 bullet.life
