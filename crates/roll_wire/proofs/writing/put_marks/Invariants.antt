use Rattle.std.proofs.Common.{◌≡◌, ◌+◌, ◌*◌, ◌≤◌, ◌++◌, length, map, take}
use Rattle.std.specs.Prelude.{is_some, IfSome}
use Rattle.std.specs.List.{AllByRecursion, flat_map}
use Rattle.roll_wire.specs.Spelling.{IsMarked, byte, mask, marked, present, within}
use Rattle.roll_wire.proofs.writing.put_marks.Given as goal

abbrev pub invariant-loop-m : goal.invariant-loop-m
invariant-loop-m l = record {
  items : l.out.items ≡ (l.fn.out.items ++ byte (mask (map is_some l.ms)))
      ++ flat_map (present is_some (within marked)) (take l.m-index l.ms);
  fits : AllByRecursion (λ m. IfSome m IsMarked) (take l.m-index l.ms);
  len : length l.out.items ≤ length l.fn.out.items + 1 + 24 * l.m-index;
}
