use Rattle.std.proofs.Common.{◌≡◌, ◌≤◌, ◌*◌, take}
use Rattle.std.specs.Prelude.{sum_by}
use Rattle.roll_carry.specs.Reading.{parcels_in}
use Rattle.roll_carry.specs.Waiting.{made_by}
use Rattle.roll_carry.specs.declared.limits.TheConstants.{AREA_LIMIT}
use Rattle.roll_carry.proofs.outbox.waiting_in.Given as goal

abbrev pub invariant-loop-area : goal.invariant-loop-area
invariant-loop-area l = record {
  sum : l.bytes ≡ sum_by (λ area. made_by l.maker (parcels_in area.items)) (take l.area-index l.areas);
  few : l.bytes ≤ l.area-index * AREA_LIMIT;
}
