use Rattle.std.proofs.Common.{◌≡◌, ap, arith}
use Rattle.roll_epoch.specs.declared.marks.Ending.{Ending}
use Rattle.roll_epoch.proofs.EndLaws.{ends_are_one}
use Rattle.roll_chain.specs.Judging.{told_by}
use Rattle.roll_chain.specs.Rows.{rows_known}
use Rattle.roll_chain.proofs.chain.Chain.over.Goals as goal

pub returns-in_err-ending-clause-not : goal.returns-in_err-ending-clause-not
returns-in_err-ending-clause-not g c =
    rw c.from_residual.ensures (λ e over. c.in_err-ending.ensures.none e over.ending)

pub returns-then-frame-ending-clause-not : goal.returns-then-frame-ending-clause-not
returns-then-frame-ending-clause-not g c = λ e over.
    let same : e ≡ c.in_ok-ending.ending =
    ends_are_one (told_by c.args.self.now c.args.peer.now) (rows_known c.args.peer.now.member.mesh) e c.in_ok-ending.ending
    over.ending.end c.in_ok-ending.ensures.found.end in
    absurd (omega (arith, over.there, ap (λ (x : Ending). x.frame) same, c.frame.ensures, c.if-frame-ending.true))
