use Rattle.std.proofs.Common.{◌≡◌, ◌+◌, ◌*◌, ◌≤◌, ◌++◌, length, map, take}
use Rattle.std.specs.Prelude.{is_some, IfSome}
use Rattle.std.specs.List.{AllByRecursion, flat_map}
use Rattle.roll_wire.specs.Spelling.{IsByte, byte, mask, present, within}
use Rattle.roll_wire.proofs.writing.put_delays.Given as goal

abbrev pub invariant-loop-d : goal.invariant-loop-d
invariant-loop-d l = record {
  items : l.out.items ≡ (l.fn.out.items ++ byte (mask (map is_some l.delays)))
      ++ flat_map (present is_some (within byte)) (take l.d-index l.delays);
  fits : AllByRecursion (λ d. IfSome d IsByte) (take l.d-index l.delays);
  len : length l.out.items ≤ length l.fn.out.items + 1 + 1 * l.d-index;
}
