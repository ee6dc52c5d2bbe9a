use Rattle.std.proofs.Common.{◌≡◌, length, take}
use Rattle.fazgrond_c.proofs.peer_kinds.narrow.Given as goal

abbrev pub invariant-loop-place : goal.invariant-loop-place
invariant-loop-place l =
    record { sized : length l.bytes ≡ 8; same : take l.place l.bytes ≡ take l.place l.numbers }
