use Rattle.std.proofs.Common.{◌≡◌, ◌++◌, false, drop, length, take}
use Rattle.roll_mesh.specs.declared.limits.TheConstants.{PLAYER_LIMIT}
use Rattle.roll_viewer.specs.Telling.{said_once}
use Rattle.roll_viewer.proofs.telling.said_once.Given as goal

abbrev pub invariant-loop-place : goal.invariant-loop-place
invariant-loop-place l = record {
  all : length l.offers ≡ PLAYER_LIMIT;
  so_far : take l.place l.offers ++ said_once l.is_said (drop l.place l.spans) ≡ said_once false l.spans;
}
