use Rattle.std.proofs.Common.{take}
use Rattle.roll_cert.specs.Checked.{IsNoted, AreGood}
use Rattle.roll_cert.proofs.checking.check_entries.Given as goal

abbrev pub invariant-loop-j : goal.invariant-loop-j
invariant-loop-j l = record {
  noted : IsNoted l.named.first (take l.j l.claim.differs);
  good : AreGood l.claim l.j;
}
