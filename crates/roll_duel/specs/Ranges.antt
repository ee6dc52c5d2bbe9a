-- What every ship, bullet and field keeps to.
use Rattle.std.specs.Prelude.{ℕ, ◌<◌, ◌≤◌, length, All, ℤ, pos, neg_ℤ, ◌≤ℤ◌}
use Rattle.roll_duel.specs.declared.ship.Ship.{Ship}
use Rattle.roll_duel.specs.declared.bullet.Bullet.{Bullet}
use Rattle.roll_duel.specs.Space.{width, height}
use Rattle.roll_duel.specs.Frame.{Field}

pub record IsSpeed (limit : ℕ) (speed : ℤ) : Type 0 where
  pub low : neg_ℤ (pos limit) ≤ℤ speed
  pub high : speed ≤ℤ pos limit

pub record IsShip (ship : Ship) : Type 0 where
  pub x_in : ship.x < width
  pub y_in : ship.y < height
  pub vx_in : IsSpeed 512 ship.vx
  pub vy_in : IsSpeed 512 ship.vy
  pub heading_in : ship.heading < 8
  pub cool_in : ship.cool ≤ 8
  pub hits_in : ship.hits ≤ 65535

pub record IsBullet (bullet : Bullet) : Type 0 where
  pub owner_in : bullet.owner ≤ 4
  pub life_in : bullet.life ≤ 60
  pub x_in : bullet.x < width
  pub y_in : bullet.y < height
  pub vx_in : IsSpeed 1024 bullet.vx
  pub vy_in : IsSpeed 1024 bullet.vy

pub record IsField (field : Field) : Type 0 where
  pub some_ships : 2 ≤ length field.ships
  pub few_ships : length field.ships ≤ 4
  pub few_bullets : length field.bullets ≤ 32
  pub ships_in : All IsShip field.ships
  pub bullets_in : All IsBullet field.bullets
