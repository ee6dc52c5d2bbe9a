use Rattle.std.proofs.Common.{w8, sym, subst, arith}
use Rattle.std.proofs.lemmas.Nat.Bits.{bit_at-trailing_zeros}
use Rattle.roll_tree.specs.Marks.{AreMarks}
use Rattle.roll_tree.proofs.Bytes.{least_none, least_some}
use Rattle.roll_tree.proofs.marks.least_marked.Goals as goal

pub returns-then-marks-eq0 : goal.returns-then-marks-eq0
returns-then-marks-eq0 c = λ there row are. sym (least_none there row (subst (AreMarks there row) c.if-marks-eq0.true are))

pub returns : goal.returns
returns c = λ there row are.
    let lowest = bit_at-trailing_zeros w8 c.args.marks (omega arith) c.ranges.marks.fits in
    sym (least_some there row c.args.marks _ are lowest.1 lowest.2)
