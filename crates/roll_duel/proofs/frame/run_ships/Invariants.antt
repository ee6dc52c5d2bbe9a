use Rattle.std.proofs.Common.{◌≡◌, ◌≤◌, take, drop, All, length}
use Rattle.roll_duel.specs.Frame.{after_ships}
use Rattle.roll_duel.specs.Ranges.{IsShip, IsBullet}
use Rattle.roll_duel.proofs.Turns.{before}
use Rattle.roll_duel.proofs.frame.run_ships.Given as goal

-- the first ships had their turn, and what the others will do makes the whole frame
abbrev pub invariant-loop-place : goal.invariant-loop-place
invariant-loop-place l =
    record {
      whole : after_ships l.row 0 l.initial.ships.items l.initial.bullets.items ≡ before (take l.place l.ships.items) (after_ships l.row l.place (drop l.place l.ships.items) l.bullets.items);
      as_many : length l.ships.items ≡ length l.initial.ships.items;
      few : length l.bullets.items ≤ 32;
      ships_in : All IsShip l.ships.items;
      bullets_in : All IsBullet l.bullets.items;
    }
