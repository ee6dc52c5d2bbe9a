use Rattle.std.proofs.Common.{◌≡◌, ◌≤◌, ◌++◌, drop, length, take}
use Rattle.roll_mesh.specs.declared.limits.TheConstants.{PLAYER_LIMIT}
use Rattle.roll_wire.specs.declared.limits.TheConstants.{WORD_LIMIT}
use Rattle.roll_member.specs.Telling.{rooms}
use Rattle.roll_member.proofs.Rooms.{counts_of}
use Rattle.roll_member.proofs.telling.room_for.Given as goal

abbrev pub invariant-loop-place : goal.invariant-loop-place
invariant-loop-place l = record {
  all : length l.room ≡ PLAYER_LIMIT;
  few : l.left ≤ WORD_LIMIT;
  so_far : take l.place l.room ++ rooms l.words l.place l.fits l.left (drop l.place (counts_of l.wanted.offers))
      ≡ rooms l.words 0 0 WORD_LIMIT (counts_of l.wanted.offers);
}
