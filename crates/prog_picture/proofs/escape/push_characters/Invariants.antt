use Rattle.std.proofs.Common.{◌≡◌, ◌++◌, take}
use Rattle.std.specs.List.{flat_map}
use Rattle.std.specs.String.{string_bytes}
use Rattle.prog_picture.specs.Escapes.{escaped}
use Rattle.prog_picture.proofs.escape.push_characters.Given as goal

abbrev pub invariant-loop-c : goal.invariant-loop-c
invariant-loop-c l = string_bytes l.out ≡ string_bytes l.initial.out ++ flat_map escaped (take l.c-index l.all)
