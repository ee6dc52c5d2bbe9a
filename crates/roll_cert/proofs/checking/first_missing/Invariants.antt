use Rattle.roll_cert.specs.Checked.{AreNamed}
use Rattle.roll_cert.proofs.checking.first_missing.Given as goal

abbrev pub invariant-loop-i : goal.invariant-loop-i
invariant-loop-i l = AreNamed l.claim l.i
