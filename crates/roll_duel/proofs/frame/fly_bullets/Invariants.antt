use Rattle.std.proofs.Common.{◌≡◌, ◌++◌, take, drop, All, map}
use Rattle.roll_duel.specs.Bullets.{flown}
use Rattle.roll_duel.specs.Ranges.{IsBullet}
use Rattle.roll_duel.proofs.frame.fly_bullets.Given as goal

abbrev pub invariant-loop-bullet : goal.invariant-loop-bullet
invariant-loop-bullet l =
    record {
      moved : l.bullet-items ≡ map flown (take l.bullet-index l.initial.bullet-items) ++ drop l.bullet-index l.initial.bullet-items;
      bullets_in : All IsBullet l.bullet-items;
    }
