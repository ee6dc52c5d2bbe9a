use Rattle.std.proofs.Common.{List, sym, subst, take}
use Rattle.roll_frame.specs.declared.claim.Differ.{Differ}
use Rattle.roll_cert.specs.Checked.{IsNoted}
use Rattle.roll_cert.proofs.Entries.{AreGood-more, take-more}
use Rattle.roll_cert.proofs.checking.check_entries.Goals as goal

pub loop-j-preserved : goal.loop-j-preserved
loop-j-preserved c = record {
  noted = subst (λ (entries : List Differ). IsNoted c.insert.new.self.first entries) (sym (take-more c.args.claim.now.differs c.loop-j.j c.entry_at.result c.entry_at.ensures))
      (c.insert.ensures (take c.loop-j.j c.args.claim.now.differs) c.loop-j.invariant.noted);
  good = AreGood-more c.args.claim.now c.loop-j.j c.loop-j.invariant.good c.in_default.ensures.good;
}
