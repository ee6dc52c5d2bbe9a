use Rattle.std.proofs.Common.{◌≡◌, take}
use Rattle.roll_peer.specs.Turning.{ends_in_roll}
use Rattle.roll_peer.proofs.turning.ends_in_roll.Given as goal

abbrev pub invariant-loop-place : goal.invariant-loop-place
invariant-loop-place l = ends_in_roll (take l.place l.log.entries) ≡ ends_in_roll l.log.entries
