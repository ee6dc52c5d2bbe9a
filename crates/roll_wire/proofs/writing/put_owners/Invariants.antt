use Rattle.std.proofs.Common.{◌≡◌, ◌+◌, ◌*◌, ◌++◌, length, take}
use Rattle.std.specs.List.{AllByRecursion, flat_map}
use Rattle.roll_wire.specs.Spelling.{IsByte, byte}
use Rattle.roll_wire.proofs.writing.put_owners.Given as goal

abbrev pub invariant-loop-owner : goal.invariant-loop-owner
invariant-loop-owner l = record {
  items : l.out.items ≡ l.fn.out.items ++ flat_map byte (take l.owner-index l.owners);
  fits : AllByRecursion IsByte (take l.owner-index l.owners);
  len : length l.out.items ≡ length l.fn.out.items + 1 * l.owner-index;
}
