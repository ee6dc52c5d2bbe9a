use Rattle.std.proofs.Common.{◌≡◌, take, All, length}
use Rattle.std.specs.Prelude.{fold}
use Rattle.std.proofs.lemmas.List.Filters.{FiltersInPlace}
use Rattle.roll_duel.specs.Bullets.{struck, remains}
use Rattle.roll_duel.specs.Ranges.{IsShip, IsBullet}
use Rattle.roll_duel.proofs.frame.land_bullets.Given as goal

-- of the first bullets those that remain are in front, and each of them struck
abbrev pub invariant-loop-index : goal.invariant-loop-index
invariant-loop-index l =
    record {
      kept : FiltersInPlace (remains l.initial.ships.items) l.initial.bullets.items l.bullets.items l.kept l.index;
      struck_so_far : l.ships.items ≡ fold (λ ships bullet. struck bullet 1 ships) l.initial.ships.items (take l.index l.initial.bullets.items);
      as_many : length l.ships.items ≡ length l.initial.ships.items;
      ships_in : All IsShip l.ships.items;
      bullets_in : All IsBullet l.bullets.items;
    }
