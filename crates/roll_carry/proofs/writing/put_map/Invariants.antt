use Rattle.std.proofs.Common.{◌≡◌, ◌+◌, ◌*◌, ◌++◌, length, take}
use Rattle.std.specs.List.{AllByRecursion}
use Rattle.roll_carry.specs.Spelling.{IsHearing, map_text}
use Rattle.roll_carry.proofs.writing.put_map.Given as goal

abbrev pub invariant-loop-hearing : goal.invariant-loop-hearing
invariant-loop-hearing l = record {
  items : l.out.items ≡ l.fn.out.items ++ map_text (take l.hearing-index l.map);
  fits : AllByRecursion IsHearing (take l.hearing-index l.map);
  len : length l.out.items ≡ length l.fn.out.items + 5 * l.hearing-index;
}
