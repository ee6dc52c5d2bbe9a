use Rattle.std.proofs.Common.{◌≡◌, ◌+◌, ◌*◌, ◌++◌, length, take}
use Rattle.std.specs.List.{AllByRecursion, flat_map}
use Rattle.roll_wire.specs.Spelling.{IsNumber, number}
use Rattle.roll_state.proofs.writing.put_places.Given as goal

abbrev pub invariant-loop-place : goal.invariant-loop-place
invariant-loop-place l = record {
  items : l.out.items ≡ l.fn.out.items ++ flat_map number (take l.place-index l.places);
  fits : AllByRecursion IsNumber (take l.place-index l.places);
  len : length l.out.items ≡ length l.fn.out.items + 4 * l.place-index;
}
