use Rattle.std.proofs.Common.{◌≡◌, ℕ, take, drop}
use Rattle.prog_scripts.specs.Headers.{IsRising, bits_of}
use Rattle.prog_scripts.proofs.header.bits.Given as goal

abbrev pub invariant-loop-p : goal.invariant-loop-p
invariant-loop-p l = record {
  value : l.bits ≡ bits_of (take l.p-index l.players);
  rising : (least : ℕ) × IsRising least (drop l.p-index l.players);
}
