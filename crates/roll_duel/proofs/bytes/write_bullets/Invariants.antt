use Rattle.std.proofs.Common.{◌≡◌, ◌++◌, take, flat_map}
use Rattle.roll_duel.specs.Bytes.{bullet_bytes}
use Rattle.roll_duel.proofs.bytes.write_bullets.Given as goal

abbrev pub invariant-loop-bullet : goal.invariant-loop-bullet
invariant-loop-bullet l = l.bytes.items ≡ l.initial.bytes.items ++ flat_map bullet_bytes (take l.bullet-index l.bullets)
