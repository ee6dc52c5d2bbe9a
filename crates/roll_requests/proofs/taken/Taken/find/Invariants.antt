use Rattle.std.proofs.Common.{◌≡◌, ◌<◌, ◌≤◌, length}
use Rattle.std.specs.Prelude.{All}
use Rattle.roll_requests.specs.Slotted.{free_slots, is_taken, AreFree}
use Rattle.roll_requests.proofs.taken.Taken.find.Given as goal

abbrev pub invariant-loop-slot : goal.invariant-loop-slot
invariant-loop-slot l = record {
  few : length l.slots.items ≤ l.count;
  free : AreFree l.limit l.self l.slots.items;
  below : All (λ j. j < l.slot) l.slots.items;
  first : l.slots.items ≡ free_slots (is_taken l.self) l.slot;
}
