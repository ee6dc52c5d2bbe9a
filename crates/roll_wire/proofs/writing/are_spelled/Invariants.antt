use Rattle.std.proofs.Common.{◌≡◌, true, take}
use Rattle.std.specs.List.{list_all}
use Rattle.roll_wire.specs.Spelling.{is_spelled}
use Rattle.roll_wire.proofs.writing.are_spelled.Given as goal

abbrev pub invariant-loop-m : goal.invariant-loop-m
invariant-loop-m l = list_all is_spelled (take l.m-index l.ms) ≡ true
