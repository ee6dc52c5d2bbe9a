use Rattle.std.proofs.Common.{◌≡◌, length, map, take}
use Rattle.std.specs.Prelude.{is_some}
use Rattle.roll_mesh.specs.declared.limits.TheConstants.{PLAYER_LIMIT}
use Rattle.roll_wire.proofs.writing.has_marks.Given as goal

abbrev pub invariant-loop-player : goal.invariant-loop-player
invariant-loop-player l = record {
  all : length l.places ≡ PLAYER_LIMIT;
  so_far : take l.player l.places ≡ map is_some (take l.player l.marks);
}
