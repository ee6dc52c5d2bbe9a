use Rattle.std.proofs.Common.{◌≡◌, length, map, take}
use Rattle.roll_mesh.specs.Machines.{kept_offer}
use Rattle.roll_mesh.specs.declared.limits.TheConstants.{PLAYER_LIMIT}
use Rattle.roll_mesh.proofs.packet.Packet.shortened.Given as goal

abbrev pub invariant-loop-player : goal.invariant-loop-player
invariant-loop-player l = record {
  all : length l.offers ≡ PLAYER_LIMIT;
  so_far : take l.player l.offers ≡ map kept_offer (take l.player l.self.offers);
}
