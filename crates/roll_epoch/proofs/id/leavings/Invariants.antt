use Rattle.std.proofs.Common.{◌≡◌, ◌*◌, length, take}
use Rattle.std.specs.Int.{w32, to_be_bytes}
use Rattle.std.specs.List.{flat_map}
use Rattle.roll_epoch.specs.Ids.{leaving_at}
use Rattle.roll_epoch.proofs.id.leavings.Given as goal

abbrev pub invariant-loop-at : goal.invariant-loop-at
invariant-loop-at l = record {
  items : l.out.items ≡ flat_map (λ at. to_be_bytes w32 (leaving_at l.end at)) (take l.at-index l.left);
  len : length l.out.items ≡ 4 * l.at-index;
}
