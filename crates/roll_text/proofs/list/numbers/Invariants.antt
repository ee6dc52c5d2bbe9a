use Rattle.std.proofs.Common.{◌≡◌, map, take}
use Rattle.std.specs.List.{All}
use Rattle.std.specs.Fmt.{decimal}
use Rattle.roll_text.specs.Numbers.{IsWord}
use Rattle.roll_text.proofs.list.numbers.Given as goal

abbrev pub invariant-loop-part : goal.invariant-loop-part
invariant-loop-part l = record { words : All IsWord l.numbers.items; read : map decimal l.numbers.items ≡ map (λ part. part.now) (take l.part-index l.part-items) }
