use Rattle.std.proofs.Common.{◌≡◌, ◌+◌, ◌++◌, length, take}
use Rattle.roll_wire.proofs.bytes.put.Given as goal

abbrev pub invariant-loop-byte : goal.invariant-loop-byte
invariant-loop-byte g l = record {
  items : l.out.items ≡ l.fn.out.items ++ take l.byte-index l.bytes;
  len : length l.out.items ≡ length l.fn.out.items + l.byte-index;
}
