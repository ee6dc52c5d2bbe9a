use Rattle.std.proofs.Common.{◌≡◌, false, take, All}
use Rattle.roll_duel.specs.Bullets.{hits_any}
use Rattle.roll_duel.specs.Ranges.{IsShip}
use Rattle.roll_duel.proofs.frame.strike.Given as goal

-- the bullet hit no ship so far, and the ships are as they were
abbrev pub invariant-loop-index : goal.invariant-loop-index
invariant-loop-index l =
    record {
      missed : hits_any l.bullet 1 (take l.index l.initial.ships.items) ≡ false;
      same : l.ships.items ≡ l.initial.ships.items;
      ships_in : All IsShip l.ships.items;
    }
