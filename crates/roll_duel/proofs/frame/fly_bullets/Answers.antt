use Rattle.std.proofs.Common.{◌<◌, length, arith}
use Rattle.std.proofs.lemmas.Grind.{elements}
use Rattle.std.proofs.lemmas.List.{get_or_default}
use Rattle.std.proofs.lemmas.List.Edits.{map_over_more}
use Rattle.roll_duel.specs.Bullets.{flown}
use Rattle.roll_duel.proofs.frame.fly_bullets.Goals as goal

pub loop-bullet-preserved : goal.loop-bullet-preserved
loop-bullet-preserved c =
    let there : c.loop-bullet.bullet-index < length c.loop-bullet.bullet-items = omega arith in
    record {
      moved = rw c.fly.ensures.value (map_over_more flown c.deref_mut-bullet-items.result.now c.loop-bullet.bullet-items c.loop-bullet.bullet-index _ c.loop-bullet-test.true c.loop-bullet.invariant.moved (get_or_default c.loop-bullet.bullet-items c.loop-bullet.bullet-index _ _ there));
      bullets_in = grind (arith, elements);
    }
