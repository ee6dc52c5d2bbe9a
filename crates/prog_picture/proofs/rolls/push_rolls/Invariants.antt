use Rattle.std.proofs.Common.{◌≡◌, ◌++◌, take}
use Rattle.std.specs.List.{flat_map}
use Rattle.std.specs.String.{string_bytes}
use Rattle.prog_picture.specs.Rolls.{roll_text}
use Rattle.prog_picture.proofs.rolls.push_rolls.Given as goal

abbrev pub invariant-loop-mark : goal.invariant-loop-mark
invariant-loop-mark l = string_bytes l.out ≡ string_bytes l.initial.out ++ flat_map roll_text (take l.mark-index l.marks)
