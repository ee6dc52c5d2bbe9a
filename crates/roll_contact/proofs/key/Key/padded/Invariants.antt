use Rattle.std.proofs.Common.{◌≡◌, length, map, take}
use Rattle.std.specs.Prelude.{bit_xor}
use Rattle.roll_contact.specs.declared.key.TheConstants.{BLOCK}
use Rattle.roll_contact.proofs.key.Key.padded.Given as goal

abbrev pub invariant-loop-place : goal.invariant-loop-place
invariant-loop-place l = record {
  all : length l.padded ≡ BLOCK;
  so_far : take l.place l.padded ≡ map (λ byte. bit_xor byte l.bits) (take l.place l.block);
}
